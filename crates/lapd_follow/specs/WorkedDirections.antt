-- Worked directions, which test the definitions and show that the premises are needed.
use Rattle.std.specs.Prelude.{true, false, List, [], ◌∷◌}
use Rattle.lapd_follow.specs.declared.numbering.Numbering.{Numbering}
use Rattle.lapd_follow.specs.Directions.{Acknowledgement, Direction, Message, Passing, Silence}

-- an I frame, its arrival and its acknowledgement
abbrev pub exchange : List Passing
exchange = Message 5 false ∷ Silence ∷ Acknowledgement false 6 ∷ []

-- the I frame is on its way to the listener; its acknowledgement passed the listener
abbrev pub before_exchange : Direction
before_exchange = record { acknowledged = 5; told = 5; expected = 5; reached = 5; sent = 6 }

abbrev pub after_exchange : Direction
after_exchange = record { acknowledged = 5; told = 6; expected = 6; reached = 6; sent = 6 }

-- The N(R) 6 passed the listener, and an I frame with N(S) 6 had passed it before it began to listen.
abbrev pub overtaken : Direction
overtaken = record { acknowledged = 5; told = 6; expected = 6; reached = 7; sent = 7 }

-- an I frame that the peer has received is sent again
abbrev pub sent_twice : List Passing
sent_twice = Message 5 false ∷ Acknowledgement false 6 ∷ []

-- an answer that is older than the poll
abbrev pub answered_early : List Passing
answered_early = Acknowledgement true 6 ∷ []

-- the numbers that are learned so
abbrev pub six : Numbering
six = record { is_first = false; next = 6; nr = 6 }
