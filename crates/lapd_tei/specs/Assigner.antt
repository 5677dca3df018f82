-- The TEI management of the network side, which assigns TEIs (Q.921 5.3.2 to 5.3.5): one equation
-- for each row of its table.
use Rattle.std.specs.Prelude.{ℕ, ◌+◌, ◌<◌, ◌==◌, nat_lt, if◌then◌else◌, Bool, true, false, List, [], ◌∷◌, drop, set, replicate, slice_index_or, Option, Some, None}
use Rattle.lapd_timers.specs.declared.timer.Timer.TheVariants.{T201}
use Rattle.lapd_tei.specs.declared.kind.TeiKind.{TeiKind}
use Rattle.lapd_tei.specs.declared.kind.TeiKind.TheVariants as kind
use Rattle.lapd_tei.specs.declared.out.TeiOut.{TeiOut}
use Rattle.lapd_tei.specs.declared.out.TeiOut.TheVariants.{Send, Start, Stop, Given, Free, InUse, Doubled}
use Rattle.lapd_tei.specs.declared.check.Check.{Check}
use Rattle.lapd_tei.specs.declared.check.Round.{Round}
use Rattle.lapd_tei.specs.declared.check.Round.TheVariants as round
use Rattle.lapd_tei.specs.declared.check.Responses.{Responses}
use Rattle.lapd_tei.specs.declared.check.Responses.TheVariants as responses
use Rattle.lapd_tei.specs.declared.assigner.AssignerEvent.{AssignerEvent}
use Rattle.lapd_tei.specs.declared.assigner.AssignerEvent.TheVariants as event
use Rattle.lapd_tei.specs.Message.{group_tei}
use Rattle.lapd_tei.specs.Out.{assigned, denied, check_request, remove}

-- the held TEIs of 0 to 126, and the check in progress
pub record AssignerState : Type 0 where
  pub held : List Bool
  pub check : Option Check

-- the assigner after a step, and its outputs in order
pub record AssignerStep : Type 0 where
  pub now : AssignerState
  pub outs : List TeiOut

abbrev pub stays : AssignerState → AssignerStep
stays a = record { now = a; outs = [] }

-- no TEI is held, and no check is in progress
abbrev pub nothing_held : AssignerState
nothing_held = record { held = replicate 127 false; check = None }

-- the held TEIs, with these added
abbrev pub holding : List Bool → List ℕ → List Bool
holding held [] = held
holding held (tei ∷ teis) = holding (set held tei true) teis

abbrev pub known_held : List ℕ → AssignerState
known_held teis = record { held = holding (replicate 127 false) teis; check = None }

abbrev pub is_held : List Bool → ℕ → Bool
is_held held tei = slice_index_or held tei false

-- the lowest TEI, from this one on, that is not held
abbrev pub first_free : ℕ → List Bool → Option ℕ
first_free tei [] = None
first_free tei (true ∷ held) = first_free (tei + 1) held
first_free tei (false ∷ held) = Some tei

abbrev pub least_free : List Bool → Option ℕ
least_free held = first_free 64 (drop 64 held)

-- serves a request: assigns and holds the TEI, or denies if none is left (5.3.2)
abbrev pub serves : ℕ → Option ℕ → AssignerState → AssignerStep
serves ri (Some tei) a = record {
  now = record { held = set a.held tei true; check = a.check };
  outs = Send (assigned ri tei) ∷ Given tei ∷ [];
}
serves ri None a = record { now = a; outs = Send (denied ri) ∷ [] }

-- the check of a TEI
abbrev pub checking : ℕ → Round → Responses → Check
checking tei nth count = record { tei = tei; round = nth; responses = count }

-- starts a check if none is in progress (5.3.3, 5.3.5); the group TEI is never checked
abbrev pub begins_check : ℕ → Option Check → AssignerState → AssignerStep
begins_check tei None a =
    if nat_lt tei group_tei then record {
      now = record {
        held = a.held;
        check = Some (checking tei round.First responses.Nobody);
      };
      outs = Send (check_request tei) ∷ Start T201 ∷ [];
    }
    else stays a
begins_check tei (Some check) a = stays a

-- counts one more response, up to two
abbrev pub one_more : Responses → Responses
one_more responses.Nobody = responses.One
one_more responses.One = responses.Several
one_more responses.Several = responses.Several

abbrev pub counts_response : ℕ → Option Check → AssignerState → AssignerStep
counts_response tei None a = stays a
counts_response tei (Some check) a =
    if tei == check.tei then record {
      now = record {
        held = a.held;
        check = Some (checking check.tei check.round (one_more check.responses));
      };
      outs = [];
    }
    else stays a

-- ends the check; the TEI stays held or not, as `held` says
abbrev pub without_check : AssignerState → List TeiOut → AssignerStep
without_check a outs = record { now = record { held = a.held; check = None }; outs = outs }

abbrev pub freed_by_check : ℕ → AssignerState → List TeiOut → AssignerStep
freed_by_check tei a outs = record {
  now = record { held = set a.held tei false; check = None };
  outs = outs;
}

-- T201 expires. Without a response: the check requests responses once more, then frees the TEI. One
-- response: the TEI is in use. Two: it is assigned more than once, and is removed (5.3.3.2).
abbrev pub round_ends : ℕ → Round → Responses → AssignerState → AssignerStep
round_ends tei round.First responses.Nobody a =
    record {
      now = record {
        held = a.held;
        check = Some
            (checking tei round.Second responses.Nobody);
      };
      outs = Send (check_request tei) ∷ Start T201 ∷ [];
    }
round_ends tei round.Second responses.Nobody a = freed_by_check tei a (Free tei ∷ [])
round_ends tei nth responses.One a = without_check a (InUse tei ∷ [])
round_ends tei nth responses.Several a = freed_by_check tei a
    (Send (remove tei) ∷ Send (remove tei) ∷ Doubled tei ∷ [])

abbrev pub timer_ends : Option Check → AssignerState → AssignerStep
timer_ends None a = stays a
timer_ends (Some check) a = round_ends check.tei check.round check.responses a

-- the outputs of a removal on request: Identity remove is sent twice, since one may be lost (5.3.4)
abbrev pub removal : ℕ → List TeiOut
removal tei = Send (remove tei) ∷ Send (remove tei) ∷ Free tei ∷ []

-- removes a TEI that is not under check
abbrev pub removes_unchecked : ℕ → AssignerState → AssignerStep
removes_unchecked tei a = record {
  now = record { held = set a.held tei false; check = a.check };
  outs = removal tei;
}

-- removes a TEI, and ends a check of it; the check of another TEI continues
abbrev pub removes_one : ℕ → Option Check → AssignerState → AssignerStep
removes_one tei None a = removes_unchecked tei a
removes_one tei (Some check) a =
    if tei == check.tei then freed_by_check tei a (Stop T201 ∷ removal tei)
    else removes_unchecked tei a

-- Removes a TEI on request, held or not (MDL-REMOVE, 5.3.4). The group TEI, which names all
-- terminals, is never removed.
abbrev pub removes : ℕ → Option Check → AssignerState → AssignerStep
removes tei check a = if nat_lt tei group_tei then removes_one tei check a else stays a

-- the network side processes requests, check responses and verifications
abbrev pub assigner_receives : TeiKind → ℕ → ℕ → AssignerState → AssignerStep
assigner_receives kind.Request ri ai a = serves ri (least_free a.held) a
assigner_receives kind.CheckResponse ri ai a = counts_response ai a.check a
assigner_receives kind.Verify ri ai a = begins_check ai a.check a
assigner_receives other ri ai a = stays a

-- One step.
abbrev pub assigner_step : AssignerState → AssignerEvent → AssignerStep
assigner_step a (event.Heard m) = assigner_receives m.kind m.ri m.ai a
assigner_step a (event.Check tei) = begins_check tei a.check a
assigner_step a (event.Remove tei) = removes tei a.check a
assigner_step a event.T201 = timer_ends a.check a

-- the TEI under check
abbrev pub checked : Option Check → Option ℕ
checked None = None
checked (Some check) = Some check.tei

-- the group TEI is never checked
abbrev pub ChecksOne : Option Check → Type 0
ChecksOne None = Unit {0}
ChecksOne (Some check) = check.tei < 127
