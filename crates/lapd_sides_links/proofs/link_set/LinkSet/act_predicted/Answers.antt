use Rattle.lapd_sides_links.proofs.Predictions.{acts_as_kind}
use Rattle.lapd_sides_links.proofs.link_set.LinkSet.act_predicted.Goals as goal

pub returns-in-Message-clause-ok : goal.returns-in-Message-clause-ok
returns-in-Message-clause-ok c = λ is.
    acts_as_kind c.args.now c.in-Some.key.id c.args.id.now c.in-Some.ensures.found.0 _ _
    c.in-Message.is c.args.frame.now.nr c.args.frame.now.info.now _ _ _ _
    (c.act_predicted_at.ensures.appended is) (c.act_predicted_at.ensures.ok is)

pub returns-in-Acknowledgement-clause-ok : goal.returns-in-Acknowledgement-clause-ok
returns-in-Acknowledgement-clause-ok c = λ is.
    acts_as_kind c.args.now c.in-Some.key.id c.args.id.now c.in-Some.ensures.found.0 _ _
    c.in-Acknowledgement.is c.args.frame.now.nr c.args.frame.now.info.now _ _ _ _
    (c.act_predicted_at-in-Acknowledgement.ensures.appended is) (c.act_predicted_at-in-Acknowledgement.ensures.ok is)

pub returns-in-Poll-clause-ok : goal.returns-in-Poll-clause-ok
returns-in-Poll-clause-ok c = λ is.
    acts_as_kind c.args.now c.in-Some.key.id c.args.id.now c.in-Some.ensures.found.0 _ _
    c.in-Poll.is c.args.frame.now.nr c.args.frame.now.info.now _ _ _ _
    (c.act_predicted_at-in-Poll.ensures.appended is) (c.act_predicted_at-in-Poll.ensures.ok is)
