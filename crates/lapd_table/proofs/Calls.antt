-- The calls of a table are steps of its ends.
use Rattle.std.proofs.Common.{◌≡◌, ◌≢◌, ℕ, List, [], Bool, true, false, Option, Some, None, Ok, Err, refl, sym, ap, subst, ◌∙◌, inl, inr}
use Rattle.std.specs.Prelude.{if◌then◌else◌, option_map, IsSomeAnd}
use Rattle.lapd_mod128.specs.Counting.{Tagged}
use Rattle.lapd_link.specs.Link.{LinkRepresents, Refuses}
use Rattle.lapd_link.specs.declared.link.Link.{Link}
use Rattle.lapd_link_definition.specs.declared.event.LinkFault.{LinkFault}
use Rattle.lapd_link_definition.specs.declared.out.Out.{Out}
use Rattle.lapd_link_definition.specs.End.{End, StepState}
use Rattle.lapd_link_definition.specs.Input.{Input}
use Rattle.lapd_link_definition.specs.Table.{step}
use Rattle.lapd_table.specs.declared.link_id.LinkId.{LinkId}
use Rattle.lapd_table.specs.declared.link_table.LinkTable.{LinkTable}
use Rattle.lapd_table.specs.declared.table_fault.TableFault.{TableFault}
use Rattle.lapd_table.specs.declared.table_fault.TableFault.TheVariants.{NoLink, AlreadyThere, Memory, Discarded}
use Rattle.lapd_table.specs.LinkId.{id_eq}
use Rattle.lapd_table.specs.LinkTable.{link_at, IsUnchanged, StepsAt, RefusesAt, arrives, HasDispatched, IsForNoLink}
use Rattle.lapd_table.specs.Alone.{Octets, Asked, event_for, end_by, outs_by, after, Ends, ends_after, sent_at, sent_for, IsEndOf, ShowsEnds, Follows}
use Rattle.lapd_table.proofs.Ids.{same_id_eq, id_eq_self, bool_cases}

-- ---- The end that a link represents.

end_there : (link : Link) (o : Option End) → IsEndOf (Some link) o
    → (e : End) × (o ≡ Some e) × LinkRepresents link e
end_there link None h = absurd h
end_there link (Some e) h = (e, refl, h)

no_end : (o : Option End) → IsEndOf None o → o ≡ None
no_end None h = refl
no_end (Some e) h = absurd h

-- ---- One addressed input.

module _ (old new : LinkTable) (id : LinkId) (input : Input) (ends : Ends)
    (shown : ShowsEnds old ends) where
  -- what holds for the other links and for the addressed one, by the equality test
  by_test : (end : Option End) → IsEndOf (link_at new id) end
      → ((other : LinkId) → id_eq other id ≡ false → IsEndOf (link_at new other) (ends other))
      → option_map (after input) (ends id) ≡ end
      → ShowsEnds new (ends_after (Some (id, input)) ends)
  by_test end mine others is other = elim (bool_cases (id_eq other id)) [
    | inl same ↦
        let one : other ≡ id = same_id_eq other id same in
        let Here : LinkId → Type 0 =
        λ at. IsEndOf (link_at new at)
        (if id_eq at id then option_map (after input) (ends at) else ends at) in
        let There : Option End → Type 0 = λ o. IsEndOf (link_at new id) o in
        let Test : Bool → Type 0 =
        λ t. IsEndOf (link_at new id)
        (if t then option_map (after input) (ends id) else ends id) in
        subst Here (sym one) (subst Test (sym (id_eq_self id)) (subst There (sym is) mine))
    | inr apart ↦
        let Test : Bool → Type 0 =
        λ t. IsEndOf (link_at new other)
        (if t then option_map (after input) (ends other) else ends other) in
        subst Test (sym apart) (others other apart)
  ]

  module _ (outs : List Out) (steps : StepsAt old new id input outs) where
    its_end : (e : End) × (ends id ≡ Some e) × LinkRepresents steps.before e
    its_end =
        let Shown : Option Link → Type 0 = λ l. IsEndOf l (ends id) in
        end_there steps.before (ends id) (subst Shown steps.was (shown id))

    its_step : (s : StepState) × (step Tagged input its_end.0 ≡ Ok s) × (s.outs ≡ outs)
        × LinkRepresents steps.after s.end
    its_step = steps.steps its_end.0 its_end.2

    differs : (other : LinkId) → id_eq other id ≡ false → other ≢ id
    differs other apart same =
        let h : false ≡ true = sym apart ∙ ap (λ at. id_eq at id) same ∙ id_eq_self id in
        absurd (cc)

    pub stepped_ends : ShowsEnds new (ends_after (Some (id, input)) ends)
    stepped_ends =
        let Stands : Option Link → Type 0 = λ l. IsEndOf l (Some its_step.0.end) in
        let Others : (other : LinkId) → Option Link → Type 0 = λ other l. IsEndOf l (ends other) in
        by_test (Some its_step.0.end) (subst Stands (sym steps.changes.there) its_step.3)
        (λ other apart. subst (Others other)
        (sym (steps.changes.others other (differs other apart))) (shown other))
        (ap (option_map (after input)) its_end.1 ∙ ap (λ r. Some (end_by its_end.0 r)) its_step.1)

    pub stepped_sent : sent_for id (Some (id, input)) ends ≡ outs
    stepped_sent =
        ap (λ t. if t then sent_at (ends id) input else []) (id_eq_self id)
        ∙ ap (λ o. sent_at o input) its_end.1 ∙ ap outs_by its_step.1 ∙ its_step.2

  -- the table is unchanged, and the end too
  module _ (unchanged : IsUnchanged old new) where
    same_shown : (other : LinkId) → IsEndOf (link_at new other) (ends other)
    same_shown other =
        let Shown : Option Link → Type 0 = λ l. IsEndOf l (ends other) in
        subst Shown (sym (unchanged.links other)) (shown other)

    same_ends : option_map (after input) (ends id) ≡ ends id
        → ShowsEnds new (ends_after (Some (id, input)) ends)
    same_ends stays = by_test (ends id) (same_shown id) (λ other apart. same_shown other) stays

    module _ (fault : LinkFault) (refuses : RefusesAt old id input fault) where
      refused_end : (link : Option Link) → link_at old id ≡ link
          → IsSomeAnd link (λ l. Refuses l input fault) → IsEndOf link (ends id)
          → (e : End) × (ends id ≡ Some e) × (step Tagged input e ≡ Err fault)
      refused_end None is h there = absurd h
      refused_end (Some link) is h there =
          let e = end_there link (ends id) there in (e.0, e.1, h e.0 e.2)

      refused_here : (e : End) × (ends id ≡ Some e) × (step Tagged input e ≡ Err fault)
      refused_here = refused_end (link_at old id) refl refuses (shown id)

      pub refused_ends : ShowsEnds new (ends_after (Some (id, input)) ends)
      refused_ends =
          same_ends (ap (option_map (after input)) refused_here.1
          ∙ ap (λ r. Some (end_by refused_here.0 r)) refused_here.2 ∙ sym refused_here.1)

      pub refused_sent : sent_for id (Some (id, input)) ends ≡ []
      refused_sent =
          ap (λ t. if t then sent_at (ends id) input else []) (id_eq_self id)
          ∙ ap (λ o. sent_at o input) refused_here.1 ∙ ap outs_by refused_here.2

    module _ (absent : link_at old id ≡ None) where
      none_here : ends id ≡ None
      none_here =
          let Shown : Option Link → Type 0 = λ l. IsEndOf l (ends id) in
          no_end (ends id) (subst Shown absent (shown id))

      pub absent_ends : ShowsEnds new (ends_after (Some (id, input)) ends)
      absent_ends = same_ends (ap (option_map (after input)) none_here ∙ sym none_here)

      pub absent_sent : (other : LinkId) → sent_for other (Some (id, input)) ends ≡ []
      absent_sent other = by (id_eq other id)
        where
          by : (t : Bool) → (if t then sent_at (ends id) input else []) ≡ []
          by true = ap (λ o. sent_at o input) none_here
          by false = refl

-- ---- The four outcomes of a call.

pub stepped : (old new : LinkTable) (id : LinkId) (input : Input) (outs : List Out)
    → StepsAt old new id input outs → Follows old new (Asked id input) id outs
stepped old new id input outs steps = record {
  ends = λ ends shown. stepped_ends old new id input ends shown outs steps;
  sent = λ ends shown. stepped_sent old new id input ends shown outs steps;
}

pub refused : (old new : LinkTable) (id : LinkId) (input : Input) (fault : LinkFault)
    → RefusesAt old id input fault → IsUnchanged old new → Follows old new (Asked id input) id []
refused old new id input fault refuses unchanged = record {
  ends = λ ends shown. refused_ends old new id input ends shown unchanged fault refuses;
  sent = λ ends shown. refused_sent old new id input ends shown unchanged fault refuses;
}

-- the link that octets address, once their meaning is known
as_named : (old new : LinkTable) (octets : List ℕ) (id : LinkId) (outs : List Out)
    (what : Option (LinkId × Input)) → event_for (arrives old octets) ≡ what
    → ((ends : Ends) → ShowsEnds old ends → ShowsEnds new (ends_after what ends))
    → ((ends : Ends) → ShowsEnds old ends → sent_for id what ends ≡ outs)
    → Follows old new (Octets octets) id outs
as_named old new octets id outs what is now goes = record {
  ends =
      λ ends shown. let Shown : Option (LinkId × Input) → Type 0 =
      λ w. ShowsEnds new (ends_after w ends) in subst Shown (sym is) (now ends shown);
  sent = λ ends shown. ap (λ w. sent_for id w ends) is ∙ goes ends shown;
}

pub dispatched : (old new : LinkTable) (octets : List ℕ) (id : LinkId) (outs : List Out)
    → HasDispatched old new octets id outs → Follows old new (Octets octets) id outs
dispatched old new octets id outs done =
    as_named old new octets id outs (Some (id, done.input)) (ap event_for done.arrived)
    (λ ends shown. stepped_ends old new id done.input ends shown outs done.steps)
    (λ ends shown. stepped_sent old new id done.input ends shown outs done.steps)

pub not_dispatched : (old new : LinkTable) (octets : List ℕ) (id : LinkId) (fault : TableFault)
    → IsForNoLink old octets fault → IsUnchanged old new → Follows old new (Octets octets) id []
not_dispatched old new octets id NoLink none unchanged =
    as_named old new octets id [] (Some (none.0, none.1)) (ap event_for none.2)
    (λ ends shown. absent_ends old new none.0 none.1 ends shown unchanged none.3)
    (λ ends shown. absent_sent old new none.0 none.1 ends shown unchanged none.3 id)
not_dispatched old new octets id (Discarded kind) none unchanged =
    as_named old new octets id [] None (ap event_for none)
    (λ ends shown other. let Shown : Option Link → Type 0 =
    λ l. IsEndOf l (ends other) in subst Shown (sym (unchanged.links other)) (shown other))
    (λ ends shown. refl)
not_dispatched old new octets id AlreadyThere none unchanged = absurd none
not_dispatched old new octets id Memory none unchanged = absurd none
