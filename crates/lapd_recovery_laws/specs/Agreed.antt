-- The worlds that the line's own moves lead to: both ends agree.
use Rattle.std.specs.Prelude.{◌≡◌, ◌⊎◌, false, []}
use Rattle.lapd_link_definition.specs.declared.state.State.TheVariants.{TeiAssigned, MultipleFrameEstablished}
use Rattle.lapd_link_definition.specs.End.{End}
use Rattle.lapd_pair_laws.specs.World.{World, left}

-- in state 7, and the peer received and acknowledged each message sent
pub record IsLevel (x y : End) : Type 0 where
  pub established : x.state ≡ MultipleFrameEstablished
  pub acknowledged : x.window.va ≡ x.window.vs
  pub received : y.window.vr ≡ x.window.vs

-- both in state 7, with equal numbers
pub record AreLevel (x y : End) : Type 0 where
  pub mine : IsLevel x y
  pub its : IsLevel y x

-- both in state 4
pub record AreReleased (x y : End) : Type 0 where
  pub mine : x.state ≡ TeiAssigned
  pub its : y.state ≡ TeiAssigned

-- No frame is in transit, no message is left, T200 does not run, and both ends are in state 4, or
-- both in state 7 with equal numbers.
pub record AreAgreed (w : World) : Type 0 where
  pub to_user : w.to_user ≡ []
  pub to_network : w.to_network ≡ []
  pub empty : left w ≡ 0
  pub user_stopped : w.user.end.t200 ≡ false
  pub network_stopped : w.network.end.t200 ≡ false
  pub ends : AreReleased w.user.end w.network.end ⊎ AreLevel w.user.end w.network.end
