-- A reader of a capture, seen as a capture and how far it is read.
use Rattle.std.specs.Prelude.{◌≡◌, ℕ, ◌+◌, ◌≤◌, ◌<◌, List, length, take, drop, Option, Some, Result, Ok, Err, ⊤}
use Rattle.std.specs.Io.Buffered.{reader_remaining}
use Rattle.lapd_capture.specs.declared.item.CaptureItem.{CaptureItem}
use Rattle.lapd_capture.specs.declared.fault.CaptureFault.{CaptureFault}
use Rattle.lapd_capture.specs.declared.fault.CaptureFault.TheVariants.{Cut}
use Rattle.lapd_capture.specs.declared.fault.ReadFault.{ReadFault}
use Rattle.lapd_capture.specs.declared.fault.ReadFault.TheVariants.{Capture, Device, Memory}
use Rattle.lapd_capture.specs.declared.capture_reader.CaptureReader.{CaptureReader}
use Rattle.lapd_capture.specs.Reading.{Reading, Step, with_body}

-- the octets that the reader has not passed yet, if they are known
abbrev pub unread : {R : Type 0} → (R → Option (List ℕ)) → CaptureReader R → Option (List ℕ)
unread remaining reader = reader_remaining remaining reader.source

-- the reader as a capture of which these octets are left
abbrev pub reading_of : {R : Type 0} → CaptureReader R → List ℕ → Reading
reading_of reader left = record {
  left = left;
  place = reader.place;
  order = reader.order;
  format = reader.format;
  interfaces = reader.interfaces.items;
  packets = reader.packets;
  moment = reader.moment;
  missing = reader.missing;
  body = reader.body.items;
}

-- a call returns the item of this step, and moves to the place after it; or it returns its fault
abbrev pub MakesStep : {R : Type 0} → (R → Option (List ℕ)) → Result Step CaptureFault
    → Result CaptureItem ReadFault → CaptureReader R → Type 0
MakesStep remaining step (Ok item) new = (left : List ℕ) × (unread remaining new ≡ Some left)
    × (step ≡ Ok (record { item = item; reading = reading_of new left }))
MakesStep remaining step (Err (Capture fault)) new = step ≡ Err fault
MakesStep remaining step (Err (Device kind)) new = ⊤
MakesStep remaining step (Err Memory) new = ⊤

-- the same for a reader with known octets
abbrev pub Steps : {R : Type 0} → (R → Option (List ℕ)) → (Reading → Result Step CaptureFault)
    → Result CaptureItem ReadFault → CaptureReader R → CaptureReader R → Type 0
Steps remaining step result old new = (left : List ℕ) → unread remaining old ≡ Some left
    → MakesStep remaining (step (reading_of old left)) result new

-- a capture is opened as this one, or it has this fault
abbrev pub Opens : {R : Type 0} → (R → Option (List ℕ)) → Result Reading CaptureFault
    → Result ⊤ ReadFault → CaptureReader R → Type 0
Opens remaining opened (Ok done) new = (left : List ℕ) × (unread remaining new ≡ Some left)
    × (opened ≡ Ok (reading_of new left))
Opens remaining opened (Err (Capture fault)) new = opened ≡ Err fault
Opens remaining opened (Err (Device kind)) new = ⊤
Opens remaining opened (Err Memory) new = ⊤

-- the same for the result of a constructor
abbrev pub OpensAs : {R : Type 0} → (R → Option (List ℕ)) → Result Reading CaptureFault
    → Result (CaptureReader R) ReadFault → Type 0
OpensAs remaining opened (Ok reader) = Opens remaining opened (Ok tt) reader
OpensAs remaining opened (Err (Capture fault)) = opened ≡ Err fault
OpensAs remaining opened (Err (Device kind)) = ⊤
OpensAs remaining opened (Err Memory) = ⊤

-- the next octets were taken as the body, this many; or there were fewer
abbrev pub TakesBody : {R : Type 0} → (R → Option (List ℕ)) → ℕ → Result ⊤ ReadFault
    → CaptureReader R → CaptureReader R → Type 0
TakesBody remaining count (Ok done) old new = (left : List ℕ) → unread remaining old ≡ Some left
    → (count ≤ length left) × (unread remaining new ≡ Some (drop count left))
    × (reading_of new (drop count left) ≡ with_body count (reading_of old left))
TakesBody remaining count (Err (Capture fault)) old new = (fault ≡ Cut)
    × ((left : List ℕ) → unread remaining old ≡ Some left → length left < count)
TakesBody remaining count (Err (Device kind)) old new = ⊤
TakesBody remaining count (Err Memory) old new = ⊤

-- the four octets after this many were taken; or there were fewer
abbrev pub TakesLast : {R : Type 0} → (R → Option (List ℕ)) → ℕ → Result (List ℕ) ReadFault
    → CaptureReader R → CaptureReader R → Type 0
TakesLast remaining count (Ok last) old new = (left : List ℕ) → unread remaining old ≡ Some left
    → (count + 4 ≤ length left) × (last ≡ take 4 (drop count left))
    × (unread remaining new ≡ Some (drop (count + 4) left))
TakesLast remaining count (Err (Capture fault)) old new = (fault ≡ Cut)
    × ((left : List ℕ) → unread remaining old ≡ Some left → length left < count + 4)
TakesLast remaining count (Err (Device kind)) old new = ⊤
TakesLast remaining count (Err Memory) old new = ⊤
