-- Code that represents a newly created side represents the side after a restart too.
use Rattle.std.proofs.Common.{◌≡◌, ℕ, List, [], ◌∷◌, drop, length, Option, Some, None, refl, sym, subst, ◌∙◌, arith}
use Rattle.rand_pcg.specs.Lcg.{Lcg}
use Rattle.lapd_timers.specs.Due.{Timers}
use Rattle.lapd_frame.specs.declared.Side.{Side}
use Rattle.lapd_link.specs.Link.{LinkRepresents}
use Rattle.lapd_link.specs.declared.link.Link.{Link}
use Rattle.lapd_link_definition.specs.End.{End, begin, new_end}
use Rattle.lapd_link_definition.specs.Parameters.{Parameters}
use Rattle.lapd_link_machine.specs.Tail.{IsTail}
use Rattle.lapd_queue.specs.Waiting.{Waiting}
use Rattle.lapd_table.specs.declared.link_id.LinkId.{LinkId}
use Rattle.lapd_table.specs.LinkTable.{link_at}
use Rattle.lapd_sides_links.specs.declared.config.Config.{Config}
use Rattle.lapd_sides_links.specs.declared.link_set.LinkSet.{LinkSet}
use Rattle.lapd_sides_links.specs.Links.{Linked, Links, parameters_for}
use Rattle.lapd_sides_links.specs.Shown.{timers_at, IsLinked, ShowLinks}
use Rattle.lapd_sides.specs.ShowsNetwork.{NetSide}
use Rattle.lapd_sides.specs.ShowsUser.{UserSide}
use Rattle.lapd_sides.specs.Network.{Network, new_network}
use Rattle.lapd_sides.specs.ShowsNetwork.{ShowNetwork}
use Rattle.lapd_sides.specs.ShowsUser.{ShowUser}
use Rattle.lapd_sides.specs.User.{User, new_user}
use Rattle.lapd_side_events.specs.Interface.{fresh_link}
use Rattle.lapd_restart_laws.specs.Restarts.{counting_on, link_after, network_after, user_after}
use Rattle.lapd_restart_laws.proofs.RestartedSides.{IsMade, made, missing, made_by_network, made_by_user}

-- ---- One link.

none_left : (given : List (List ℕ)) → drop (length given) given ≡ []
none_left [] = refl
none_left (message ∷ given) = none_left given

-- an empty queue is the tail of any messages
all_before : (given : List (List ℕ)) (queue : Waiting) → IsTail [] 0 0 queue
    → IsTail given (length given) (length given) queue
all_before given queue h = record {
  messages = none_left given ∙ h.messages;
  within = omega arith;
  next_is = omega (arith, h.next_is);
}

counts_unseen : (link : Link) (before : End) (p : Parameters) → LinkRepresents link (new_end p)
    → LinkRepresents link (counting_on before (new_end p))
unfolding begin
counts_unseen link before p h = record {
  parameters = h.parameters;
  state = h.state;
  rc = h.rc;
  window = h.window;
  layer3_initiated = h.layer3_initiated;
  release_pending = h.release_pending;
  t200 = h.t200;
  t203 = h.t203;
  queue = all_before before.given link.machine.queue h.queue;
  room = h.room;
  put = h.put;
}

module _ (config : Config) (id : LinkId) where
  by_parts : (link : Option Link) (t : Option Timers) (before : Linked)
      → IsLinked link t (Some (fresh_link config id))
      → IsLinked link t (link_after (Some (fresh_link config id)) (Some before))
  by_parts None t before h = absurd h
  by_parts (Some link) None before h = absurd h
  by_parts (Some link) (Some t) before h =
      (counts_unseen link before.end (parameters_for config id.sapi) h.0, h.1)

  by_before : (link : Option Link) (t : Option Timers) (before : Option Linked)
      → IsLinked link t (Some (fresh_link config id))
      → IsLinked link t (link_after (Some (fresh_link config id)) before)
  by_before link t None h = h
  by_before link t (Some before) h = by_parts link t before h

  one_linked : (link : Option Link) (t : Option Timers) (new before : Option Linked)
      → IsMade config id new → IsLinked link t new → IsLinked link t (link_after new before)
  one_linked link t new before (missing is) h =
      subst (λ o. IsLinked link t (link_after o before)) (sym is) (subst (IsLinked link t) is h)
  one_linked link t new before (made is) h =
      subst (λ o. IsLinked link t (link_after o before)) (sym is)
      (by_before link t before (subst (IsLinked link t) is h))

-- ---- All links, and the side.

all_linked : (side : Side) (config : Config) (set : LinkSet) (new before : Links)
    → ((id : LinkId) → IsMade config id (new id)) → ShowLinks side set new
    → ShowLinks side set (λ id. link_after (new id) (before id))
all_linked side config set new before are_made h = record {
  of_side = h.of_side;
  each =
      λ id. one_linked config id (link_at set.table id) (timers_at set.link_timers id) (new id)
      (before id) (are_made id) (h.each id);
}

pub new_network_restarts : (code : NetSide) (config : Config) (known : List ℕ) (before : Network)
    → ShowNetwork code config (new_network config known)
    → ShowNetwork code config (network_after config known before)
new_network_restarts code config known before h = record {
  configured = h.configured;
  served = record {
    links =
        all_linked _ config code.served.links (new_network config known).served.links
        before.served.links (made_by_network config known) h.served.links;
    timers = h.served.timers;
  };
  management = h.management;
  discarded = h.discarded;
}

pub new_user_restarts : (code : UserSide) (config : Config) (fixed : Option ℕ) (random : Lcg)
    (before : User) → ShowUser code config (new_user config fixed random)
    → ShowUser code config (user_after config fixed random before)
new_user_restarts code config fixed random before h = record {
  configured = h.configured;
  served = record {
    links =
        all_linked _ config code.served.links (new_user config fixed random).served.links
        before.served.links (made_by_user config fixed random) h.served.links;
    timers = h.served.timers;
  };
  management = h.management;
  discarded = h.discarded;
}
