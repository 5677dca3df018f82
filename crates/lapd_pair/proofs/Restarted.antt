-- The state of a side after a restart.
use Rattle.std.proofs.Common.{◌≡◌, ℕ, List, [], ◌∷◌, length, drop, refl, ap, ◌∙◌, subst, arith}
use Rattle.lapd_frame.specs.declared.Side.{Side}
use Rattle.lapd_frame.specs.Address.{other_side}
use Rattle.lapd_link.specs.declared.link.Link.{Link}
use Rattle.lapd_link.specs.Link.{LinkRepresents, Setup, setup_of}
use Rattle.lapd_link.specs.Tail.{IsTail}
use Rattle.lapd_mod128.specs.Counting.{Tagged}
use Rattle.lapd_queue.specs.Waiting.{Waiting}
use Rattle.lapd_link_definition.specs.End.{End, begin, new_end}
use Rattle.lapd_link_definition.specs.Parameters.{Parameters}
use Rattle.lapd_pair_laws.specs.Histories as world
use Rattle.lapd_pair_laws.specs.Histories.{with_others_dropped}
use Rattle.lapd_pair_laws.specs.Consistent.{AreSettled, IsConsistent}
use Rattle.lapd_pair_laws.specs.Move.{View, quietly, restarted, restarts}
use Rattle.lapd_pair.specs.declared.log.Log.{Log}
use Rattle.lapd_pair.specs.declared.line.Line.{Line}
use Rattle.lapd_pair.specs.declared.recorded_link.RecordedLink.{RecordedLink}
use Rattle.lapd_pair.specs.Histories.{IsHistory}
use Rattle.lapd_pair.specs.Line.{IsOn}
use Rattle.lapd_pair.specs.Setup.{setup_for}
use Rattle.lapd_pair.specs.Station.{IsView, IsDone}

drop_all : (messages : List (List ℕ)) → drop (length messages) messages ≡ []
drop_all [] = refl
drop_all (message ∷ messages) = drop_all messages

none_waits : (given : List (List ℕ)) (queue : Waiting) → IsTail [] 0 0 queue
    → IsTail given (length given) (length given) queue
none_waits given queue h = record {
  messages = drop_all given ∙ h.messages;
  within = omega arith;
  next_is = omega (arith, h.next_is);
}

-- a new link represents the end after a restart, whatever messages were submitted to it before
new_represents : (link : Link) (e : End) → LinkRepresents link (new_end e.parameters)
    → LinkRepresents link (restarted e)
unfolding begin
new_represents link e h = record {
  parameters = h.parameters;
  state = h.state;
  rc = h.rc;
  window = h.window;
  layer3_initiated = h.layer3_initiated;
  release_pending = h.release_pending;
  t200 = h.t200;
  t203 = h.t203;
  queue = none_waits e.given link.machine.queue h.queue;
  room = h.room;
  put = h.put;
}

pub started_anew : (side own : Side) (parameters : Parameters) (v : View) (old : RecordedLink)
    (link : Link) (history : Log) (inward outward inward_new outward_new : Line)
    → own ≡ old.link.side → ((e : End) → LinkRepresents old.link e → parameters ≡ e.parameters)
    → LinkRepresents link (new_end parameters) → setup_of link ≡ setup_for own
    → ((messages : List (List ℕ)) (h : world.History) → AreSettled h
    → IsHistory old.history messages h
    → IsHistory history messages (with_others_dropped (length messages) h))
    → ((from : Side) → IsOn from inward_new []) → ((from : Side) → IsOn from outward_new [])
    → IsConsistent Tagged v.station → IsView side old inward outward v
    → IsDone side (record { link = link; history = history }) inward_new outward_new
    (quietly (restarts v)) []
unfolding restarts
started_anew side own parameters v old link history inward outward inward_new outward_new mine
    with_them representation setup drops empty_in empty_out preserved shown =
    let e = v.station.end in
    let New : Parameters → Type 0 = λ p. LinkRepresents link (new_end p) in
    let sides : own ≡ side = mine ∙ ap (λ (x : Setup). x.side) shown.station.setup in
    record {
      acted = record { view = restarts v; outs = [] };
      is = refl;
      same = refl;
      view = record {
        station = record {
          link = new_represents link e (subst New (with_them e shown.station.link) representation);
          setup = setup ∙ ap setup_for sides;
          history = drops e.given v.station.history preserved.settled shown.station.history;
        };
        incoming = empty_in (other_side side);
        outgoing = empty_out side;
      };
    }
