use Rattle.std.proofs.Common.{sym, ap, subst, ◌∙◌, Result, Ok}
use Rattle.lapd_frame.specs.Address.{other_side}
use Rattle.lapd_frame.specs.declared.Side.{Side}
use Rattle.lapd_frame.specs.Frame.{Fields}
use Rattle.lapd_frame.specs.Reading.{frame_at}
use Rattle.lapd_sides_links.specs.declared.side_fault.SideFault.{SideFault}
use Rattle.lapd_frame.specs.declared.frame_fault.FrameFault.{FrameFault}
use Rattle.lapd_sides.specs.Calls.{HasDone, LacksMemory, Receives}
use Rattle.lapd_sides.specs.ShowsSide.{Shows}
use Rattle.lapd_sides.specs.SideState.{given_for, given_for_frame, received, takes}
use Rattle.lapd_sides.proofs.ReadFrames.{addressed_for_link, info_fits}
use Rattle.lapd_sides.proofs.Steps.{fault_so}
use Rattle.lapd_sides.proofs.managed_side.ManagedSide.take_any.Goals as goal

pub receive-requires-clause-fits : goal.receive-requires-clause-fits
receive-requires-clause-fits g c =
    info_fits c.opposite.result _ _ (c.args.bytes.now, c.read.ensures.exact) c.in-Ok.is

pub receive_fault-requires-clause-of_link : goal.receive_fault-requires-clause-of_link
receive_fault-requires-clause-of_link g c =
    addressed_for_link c.opposite.result _ _ (c.args.bytes.now, c.read.ensures.exact) c.in-Err.is

pub returns-in-Ok-receive-clause-received : goal.returns-in-Ok-receive-clause-received
unfolding given_for takes
returns-in-Ok-receive-clause-received g c =
    subst (λ (r : Result Fields FrameFault).
    Receives {E = SideFault} (Shows g.M.Represented.represents g.M.Represented.rules) (Ok tt)
    c.args.self.now c.receive.new.self c.receive.new.acts
    (λ s. given_for_frame g.M.Represented.rules s.management r)
    (λ config. received g.M.Represented.rules config c.args.now r))
    (sym c.in-Ok.is ∙ c.read.ensures.exact ∙ ap (λ (from : Side). frame_at from c.args.bytes.now)
    (c.opposite.ensures ∙ ap other_side c.side.ensures)) c.in-Ok-receive.ensures

pub returns-in-Err-receive-clause-received : goal.returns-in-Err-receive-clause-received
unfolding given_for takes
returns-in-Err-receive-clause-received g c =
    subst (λ (r : Result Fields FrameFault).
    LacksMemory (Shows g.M.Represented.represents g.M.Represented.rules) c.args.self.now
    c.receive.new.self c.receive.new.acts
    (λ s. given_for_frame g.M.Represented.rules s.management r))
    (sym c.in-Ok.is ∙ c.read.ensures.exact ∙ ap (λ (from : Side). frame_at from c.args.bytes.now)
    (c.opposite.ensures ∙ ap other_side c.side.ensures)) c.in-Err-receive.ensures

pub returns-in-Err-clause-received : goal.returns-in-Err-clause-received
unfolding given_for takes
returns-in-Err-clause-received g c = λ config s shown.
    let served = c.receive_fault.new.self in
    let acts = c.receive_fault.new.acts in
    let fault = c.in-Err.fault in
    subst (λ (r : Result Fields FrameFault).
    HasDone (Shows g.M.Represented.represents g.M.Represented.rules)
    (record c.args.self.now { served = served }) config acts
    (received g.M.Represented.rules config c.args.now r s))
    (sym c.in-Err.is ∙ c.read.ensures.exact ∙ ap (λ (from : Side). frame_at from c.args.bytes.now)
    (c.opposite.ensures ∙ ap other_side c.side.ensures))
    (fault_so g.M.Represented.represents g.M.Represented.rules.side c.args.self.now served config s
    acts c.args.now fault.kind fault.address shown
    (c.receive_fault.ensures g.M.Represented.rules.side s.served.links shown.served.links))
