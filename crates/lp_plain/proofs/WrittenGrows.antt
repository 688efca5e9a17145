-- What stands in a table and in scopes stays written while the bank and the scopes grow.
use Rattle.std.proofs.Common.{ℕ, ◌+◌, ◌<◌, Bool, List, [], ◌∷◌, ◌++◌, length, sym, ◌∙◌, subst, Option}
use Rattle.std.specs.Prelude.{All}
use Rattle.std.proofs.lemmas.List.Elements.{All-cons, All-head, All-nil, All-tail, All-weaker}
use Rattle.lp_term.specs.Nodes.{Nodes, Extends, tree}
use Rattle.lp_term.specs.Spine.{LooseBelow}
use Rattle.lp_term.specs.declared.node.TermId.{TermId}
use Rattle.lp_pattern.specs.Growing.{GoesOn}
use Rattle.lp_plain.specs.declared.frame.Assumption.{Assumption}
use Rattle.lp_plain.specs.declared.frame.Frame.{Frame}
use Rattle.lp_plain.specs.declared.frame.Todo.{Todo}
use Rattle.lp_plain.specs.declared.head.HeadPair.{HeadPair}
use Rattle.lp_plain.specs.declared.machine.Machine.{Machine}
use Rattle.lp_plain.specs.declared.table.Flat.{Flat}
use Rattle.lp_plain.specs.declared.table.Table.{Table}
use Rattle.lp_plain.specs.Entries.{GrowsGoals}
use Rattle.lp_plain.specs.Instances.{AreValues}
use Rattle.lp_plain.specs.Scopes.{Blocks, Holds, blocks_of}
use Rattle.lp_plain.specs.Tables.{shown}
use Rattle.lp_plain.specs.Within.{IsFlatIn, IsRuleIn, IsTableIn, IsTodoIn, StandsIn}
use Rattle.lp_plain.specs.Written.{IsWritten}
use Rattle.lp_plain.specs.WrittenTable.{AreWritten, HaveBinders, IsWrittenClause, IsWrittenHead, IsWrittenIn, IsWrittenTodo, WrittenFlat, WrittenGoals, WrittenList, WrittenRule, WrittenRules, a_choice, a_cut, a_goal, a_list, a_not, a_rule, a_some, an_all, an_assume, an_atom, more_rules, no_goal, no_rule}
use Rattle.lp_plain.proofs.Growing.{scope_all}
use Rattle.lp_plain.proofs.Scoped.{holds_more}
use Rattle.lp_plain.proofs.Within.{all_at}

module _ (b d : Nodes) (x : Extends b d) (t : Table) (i : IsTableIn (length b.terms) t) (ar : ℕ → ℕ) (k : ℕ) where
  atom_later : (n : ℕ) (u : TermId) → u.0 < length b.terms → IsWritten ar k n (tree b u.0) → IsWritten ar k n (tree d u.0)
  atom_later n u l w = subst (IsWritten ar k n) (sym (x.same_terms u.0 l)) w

  pairs_later : (n : ℕ) (ps : List HeadPair) → All (λ p. p.term.0 < length b.terms) ps → All (λ p. IsWritten ar k n (tree b p.term.0)) ps → All (λ p. IsWritten ar k n (tree d p.term.0)) ps
  pairs_later n [] a w = All-nil (λ (p : HeadPair). IsWritten ar k n (tree d p.term.0))
  pairs_later n (p ∷ ps) a w =
      All-cons (λ (p : HeadPair). IsWritten ar k n (tree d p.term.0)) p ps
      (atom_later n p.term (All-head (λ (p : HeadPair). p.term.0 < length b.terms) p ps a) (All-head (λ (p : HeadPair). IsWritten ar k n (tree b p.term.0)) p ps w))
      (pairs_later n ps (All-tail (λ (p : HeadPair). p.term.0 < length b.terms) p ps a) (All-tail (λ (p : HeadPair). IsWritten ar k n (tree b p.term.0)) p ps w))

  mutual
    pub flat_later : {bs : List Bool} {f : Flat} → IsFlatIn (length b.terms) f → WrittenFlat b (shown t) ar k bs f → WrittenFlat d (shown t) ar k bs f
    flat_later {bs} l (an_atom u e w) = an_atom u e (atom_later (length bs) u (subst (IsFlatIn (length b.terms)) e l) w)
    flat_later {bs} l (a_cut e) = a_cut e
    flat_later {bs} l (a_choice y z e v w) = a_choice y z e (list_later v) (list_later w)
    flat_later {bs} l (a_some y e w) = a_some y e (list_later w)
    flat_later {bs} l (an_all y e w) = an_all y e (list_later w)
    flat_later {bs} l (an_assume s y n e v w) = an_assume s y n e (rules_later v) (list_later w)
    flat_later {bs} l (a_not y n e w) = a_not y n e (list_later w)

    pub list_later : {bs : List Bool} {n : ℕ} → WrittenList b (shown t) ar k bs n → WrittenList d (shown t) ar k bs n
    list_later (a_list s e w) = a_list s e (goals_later w)

    pub goals_later : {bs : List Bool} {from to : ℕ} → WrittenGoals b (shown t) ar k bs from to → WrittenGoals d (shown t) ar k bs from to
    goals_later (no_goal e) = no_goal e
    goals_later {bs} {from} (a_goal f e w ws) = a_goal f e (flat_later (all_at (IsFlatIn (length b.terms)) t.goals.items from f e i.goals) w) (goals_later ws)

    pub rules_later : {bs : List Bool} {from to : ℕ} → WrittenRules b (shown t) ar k bs from to → WrittenRules d (shown t) ar k bs from to
    rules_later (no_rule e) = no_rule e
    rules_later (more_rules r e z w ws) = more_rules r e z (rule_later w) (rules_later ws)

    pub rule_later : {bs : List Bool} {n : ℕ} → WrittenRule b (shown t) ar k bs n → WrittenRule d (shown t) ar k bs n
    rule_later {bs} {n} (a_rule r e h ps w) =
        let q : IsRuleIn (length b.terms) r = all_at (IsRuleIn (length b.terms)) t.rules.items n r e i.rules in
        a_rule r e (subst (IsWrittenHead ar k (length r.slots.items) bs) (sym (x.same_terms r.head.0 q.head)) h)
        (pairs_later (length r.slots.items + length bs) r.pairs.items q.pairs ps) (list_later w)

-- binders and scopes
pub binders_later : (b d : Nodes) → Extends b d → (bs : List Bool) (ws : List TermId) → AreValues b ws → HaveBinders b bs ws → HaveBinders d bs ws
binders_later b d x bs ws a h = record {
  many = h.many;
  eigens = λ i e.
      let r = h.eigens i e in
      (r.0, r.1, r.2, x.same_terms r.0.0 (all_at (λ (t : TermId). (t.0 < length b.terms) × LooseBelow 0 0 (tree b t.0)) ws i r.0 r.2 a).0 ∙ r.3);
}

pub in_later : (b d : Nodes) → Extends b d → (s z : Blocks) → AreValues b s.values → GoesOn s.blocks z.blocks → GoesOn s.values z.values →
    (o : Option ℕ) (Is Now : ℕ → List Bool → Type 0) → ((k : ℕ) (bs : List Bool) → Is k bs → Now k bs) →
    IsWrittenIn b s o Is → IsWrittenIn d z o Now
in_later b d x s z a kb kv o Is Now f w = record {
  type_vars = w.type_vars;
  binders = w.binders;
  values = w.values;
  scope_holds = subst (λ bs. Holds z.values bs o w.values) (sym kb.1) (subst (λ us. Holds us (s.blocks ++ kb.0) o w.values) (sym kv.1)
      (holds_more s.values kv.0 s.blocks kb.0 o w.values w.scope_holds));
  have = binders_later b d x w.binders w.values (scope_all (λ (t : TermId). (t.0 < length b.terms) × LooseBelow 0 0 (tree b t.0)) s.values s.blocks o w.values a w.scope_holds) w.have;
  is = f w.type_vars w.binders w.is;
}

-- frames and assumptions of before
module _ (b d : Nodes) (x : Extends b d) (t : Table) (i : IsTableIn (length b.terms) t) (s z : Blocks) (v : AreValues b s.values)
    (kb : GoesOn s.blocks z.blocks) (kv : GoesOn s.values z.values) (ar : ℕ → ℕ) where
  pub todo_written : (o : Option ℕ) (w : Todo) → IsTodoIn (length b.terms) w → IsWrittenTodo b (shown t) ar s o w → IsWrittenTodo d (shown t) ar z o w
  todo_written o (Todo.Goals span) l w =
      in_later b d x s z v kb kv o (λ k bs. WrittenGoals b (shown t) ar k bs span.from span.to) (λ k bs. WrittenGoals d (shown t) ar k bs span.from span.to) (λ k bs y. goals_later b d x t i ar k y) w
  todo_written o (Todo.Term u) l w = subst (LooseBelow 0 0) (sym (x.same_terms u.0 l)) w

  pub clause_written : (y : Assumption) → IsWrittenClause b (shown t) ar s y → IsWrittenClause d (shown t) ar z y
  clause_written y w = record {
    rule = w.rule;
    there = w.there;
    alone = w.alone;
    written = in_later b d x s z v kb kv y.values.scope (λ k bs. WrittenRule b (shown t) ar k bs y.rule)
        (λ k bs. WrittenRule d (shown t) ar k bs y.rule) (λ k bs h. rule_later b d x t i ar k h) w.written;
  }

  frames_written : (fs : List Frame) → All (λ f. IsTodoIn (length b.terms) f.todo) fs → All
      (λ f. IsWrittenTodo b (shown t) ar s f.place.values.scope f.todo) fs → All (λ f. IsWrittenTodo d (shown t) ar z f.place.values.scope f.todo) fs
  frames_written [] a w = All-nil (λ (f : Frame). IsWrittenTodo d (shown t) ar z f.place.values.scope f.todo)
  frames_written (f ∷ fs) a w =
      All-cons (λ (f : Frame). IsWrittenTodo d (shown t) ar z f.place.values.scope f.todo) f fs
      (todo_written f.place.values.scope f.todo (All-head (λ (f : Frame). IsTodoIn (length b.terms) f.todo) f fs a)
      (All-head (λ (f : Frame). IsWrittenTodo b (shown t) ar s f.place.values.scope f.todo) f fs w))
      (frames_written fs (All-tail (λ (f : Frame). IsTodoIn (length b.terms) f.todo) f fs a) (All-tail (λ (f : Frame). IsWrittenTodo b (shown t) ar s f.place.values.scope f.todo) f fs w))

  pub lists_written : (fs : List Frame) (xs : List Assumption) → All (λ f. IsTodoIn (length b.terms) f.todo) fs → AreWritten b (shown t) ar s fs xs → AreWritten d (shown t) ar z fs xs
  lists_written fs xs a w = record { goals = frames_written fs a w.goals; clauses = All-weaker (IsWrittenClause b (shown t) ar s) (IsWrittenClause d (shown t) ar z) clause_written xs w.clauses }

pub older_written : (m n : Machine) → StandsIn m → GrowsGoals m n → (ar : ℕ → ℕ) (fs : List Frame) (xs : List Assumption) → All
    (λ f. IsTodoIn (length m.bank.terms) f.todo) fs → AreWritten m.bank (shown m.table) ar (blocks_of m.scopes) fs xs →
    AreWritten n.bank (shown n.table) ar (blocks_of n.scopes) fs xs
older_written m n i g ar fs xs a w =
    subst (λ t. AreWritten n.bank (shown t) ar (blocks_of n.scopes) fs xs) (sym g.table)
    (lists_written m.bank n.bank g.bank m.table i.table (blocks_of m.scopes) (blocks_of n.scopes) i.values g.blocks g.values ar fs xs a w)

-- what is written in a place
pub list_in_later : (m n : Machine) → StandsIn m → GrowsGoals m n → (ar : ℕ → ℕ) (o : Option ℕ) (more : List Bool) (l : ℕ) → IsWrittenIn m.bank
    (blocks_of m.scopes) o (λ k bs. WrittenList m.bank (shown m.table) ar k (more ++ bs) l) →
    IsWrittenIn n.bank (blocks_of n.scopes) o (λ k bs. WrittenList n.bank (shown n.table) ar k (more ++ bs) l)
list_in_later m n i g ar o more l w =
    subst (λ t. IsWrittenIn n.bank (blocks_of n.scopes) o (λ k bs. WrittenList n.bank (shown t) ar k (more ++ bs) l)) (sym g.table)
    (in_later m.bank n.bank g.bank (blocks_of m.scopes) (blocks_of n.scopes) i.values g.blocks g.values o
    (λ k bs. WrittenList m.bank (shown m.table) ar k (more ++ bs) l) (λ k bs. WrittenList n.bank (shown m.table) ar k (more ++ bs) l)
    (λ k bs x. list_later m.bank n.bank g.bank m.table i.table ar k x) w)
