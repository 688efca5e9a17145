-- What a try leaves, and what may grow by it.
use Rattle.std.proofs.Common.{◌≡◌, ℕ, ◌+◌, ◌<◌, ◌≤◌, List, length, refl, sym, ap, ◌∙◌, subst, arith, None, Some}
use Rattle.std.specs.Prelude.{All, slice_get}
use Rattle.std.proofs.lemmas.List.Elements.{All-weaker}
use Rattle.lp_calculus.specs.Term.{apply}
use Rattle.lp_term.specs.Nodes.{Extends, tree}
use Rattle.lp_term.specs.Spine.{IsNoApplication}
use Rattle.lp_term.specs.declared.node.TermId.{TermId}
use Rattle.lp_term.proofs.Trees.{extends_same, extends-trans}
use Rattle.lp_pattern.specs.Growing.{GoesOn, Grows, IsPairOf}
use Rattle.lp_pattern.proofs.Keeps.{goes_on_same, goes_on_then, grows_same, grows_then}
use Rattle.lp_plain.specs.declared.candidates.Candidate.{Candidate}
use Rattle.lp_plain.specs.declared.frame.Assumption.{Assumption}
use Rattle.lp_plain.specs.declared.choice.Call.{Call}
use Rattle.lp_plain.specs.declared.frame.Frame.{Frame}
use Rattle.lp_plain.specs.declared.frame.Place.{Place}
use Rattle.lp_plain.specs.declared.frame.Todo.{Todo}
use Rattle.lp_plain.specs.declared.instance.Values.{Values}
use Rattle.lp_plain.specs.declared.machine.Machine.{Machine}
use Rattle.lp_plain.specs.Assuming.{HasFrameAt, KeepsAssumed}
use Rattle.lp_plain.specs.Attempted.{IsClauseOf, OpensMore, with_first, with_types_to}
use Rattle.lp_plain.specs.Entries.{KeepsGoals}
use Rattle.lp_plain.specs.Heads.{trees_of}
use Rattle.lp_plain.specs.Instances.{AreValues}
use Rattle.lp_plain.specs.Keeping.{KeepsCourse}
use Rattle.lp_plain.specs.Trials.{GrowsByTry, IsAround, IsGoalOf, IsNoTrial, goal_of}
use Rattle.lp_plain.specs.Unifying.{IsBoundIn, IsMore, StandPairs}
use Rattle.lp_plain.specs.Within.{IsTableIn, IsTodoIn, StandsIn}
use Rattle.lp_plain.proofs.Grown.{grown_by, grown_frame, grown_kept, grown_still, grown_then}
use Rattle.lp_plain.proofs.Growing.{values_later}
use Rattle.lp_plain.proofs.Later.{table_later}
use Rattle.lp_plain.proofs.Spines.{spine_arguments}
use Rattle.lp_plain.proofs.TrialParts.{first_within, goal_values}
use Rattle.lp_plain.proofs.Trials.{goal_spine, pairs_later}

pub more_then : (m n o : Machine) → IsMore m n → IsMore n o → IsMore m o
more_then m n o g h = record {
  bank = extends-trans m.bank n.bank o.bank g.bank h.bank;
  bindings = grows_then m.bindings n.bindings o.bindings g.bindings h.bindings;
  blocks = goes_on_then m.scopes.blocks.items n.scopes.blocks.items o.scopes.blocks.items g.blocks h.blocks;
  values = goes_on_then m.scopes.values.items n.scopes.values.items o.scopes.values.items g.values h.values;
  next = omega (arith, g.next, h.next);
  next_type = omega (arith, g.next_type, h.next_type);
  table = h.table ∙ g.table;
  index = h.index ∙ g.index;
  frames = h.frames ∙ g.frames;
  assumptions = h.assumptions ∙ g.assumptions;
  newest = h.newest ∙ g.newest;
  standings = h.standings ∙ g.standings;
  choices = h.choices ∙ g.choices;
  denied = h.denied ∙ g.denied;
  counts = h.counts ∙ g.counts;
}

types_more : (m : Machine) (k : ℕ) → m.branch.next_type ≤ k → IsMore m (with_types_to m k)
types_more m k l = record {
  bank = extends_same m.bank;
  bindings = grows_same m.bindings;
  blocks = goes_on_same m.scopes.blocks.items;
  values = goes_on_same m.scopes.values.items;
  next = omega arith;
  next_type = l;
  table = refl;
  index = refl;
  frames = refl;
  assumptions = refl;
  newest = refl;
  standings = refl;
  choices = refl;
  denied = refl;
  counts = refl;
}

-- a clause is told
clause_more : (m n : Machine) (candidate : Candidate) (p : ℕ × Values) → IsClauseOf m n candidate p → IsMore m n
clause_more m n (Candidate.Assumed i) p h = subst (IsMore m) (sym h.4) (types_more m m.branch.next_type (omega arith))
clause_more m n (Candidate.Program i) p h = subst (IsMore m) (sym h.2.4) (types_more m (m.branch.next_type + h.2.0.type_vars) (omega arith))

pub told_bank : (m n : Machine) (candidate : Candidate) (p : ℕ × Values) → IsClauseOf m n candidate p → n.bank ≡ m.bank
told_bank m n (Candidate.Assumed i) p h = ap (λ x. x.bank) h.4
told_bank m n (Candidate.Program i) p h = ap (λ x. x.bank) h.2.4

pub told_scopes : (m n : Machine) (candidate : Candidate) (p : ℕ × Values) → IsClauseOf m n candidate p → n.scopes ≡ m.scopes
told_scopes m n (Candidate.Assumed i) p h = ap (λ x. x.scopes) h.4
told_scopes m n (Candidate.Program i) p h = ap (λ x. x.scopes) h.2.4

told_pairs : (m n : Machine) (candidate : Candidate) (p : ℕ × Values) → IsClauseOf m n candidate p → n.branch.pairs ≡ m.branch.pairs
told_pairs m n (Candidate.Assumed i) p h = ap (λ x. x.branch.pairs) h.4
told_pairs m n (Candidate.Program i) p h = ap (λ x. x.branch.pairs) h.2.4

-- a candidate without a clause is no trial

pub no_assumption : (m : Machine) (x : Candidate) (i : ℕ) → x ≡ Candidate.Assumed i → slice_get m.assumptions.items i ≡ None → IsNoTrial m x
no_assumption m x i e none vs h values σ T = go x e T.around
  where
    go : (y : Candidate) → y ≡ Candidate.Assumed i → IsAround m y T.rule T.type_vars values → ⊥
    go (Candidate.Assumed j) q a =
        let same : j ≡ i = cc in
        let z : Some a.0 ≡ None = sym a.1 ∙ ap (slice_get m.assumptions.items) same ∙ none in
        cc
    go (Candidate.Program j) q a = cc

pub no_assumed_rule : (m : Machine) (x : Candidate) (i : ℕ) (f : Assumption) → x ≡ Candidate.Assumed i → slice_get m.assumptions.items i ≡ Some f → slice_get m.table.rules.items f.rule ≡ None → IsNoTrial m x
no_assumed_rule m x i f e there none vs h values σ T = go x e T.around
  where
    go : (y : Candidate) → y ≡ Candidate.Assumed i → IsAround m y T.rule T.type_vars values → ⊥
    go (Candidate.Assumed j) q a =
        let same : j ≡ i = cc in
        let found : a.0 ≡ f = (let z : Some a.0 ≡ Some f = sym a.1 ∙ ap (slice_get m.assumptions.items) same ∙ there in cc) in
        let z : Some T.is.0 ≡ None = sym T.is.1 ∙ ap (slice_get m.table.rules.items) (a.2 ∙ ap (λ (y : Assumption). y.rule) found) ∙ none in
        cc
    go (Candidate.Program j) q a = cc

pub no_program_rule : (m : Machine) (x : Candidate) (i : ℕ) → x ≡ Candidate.Program i → slice_get m.table.rules.items i ≡ None → IsNoTrial m x
no_program_rule m x i e none vs h values σ T = go x e T.around
  where
    go : (y : Candidate) → y ≡ Candidate.Program i → IsAround m y T.rule T.type_vars values → ⊥
    go (Candidate.Assumed j) q a = cc
    go (Candidate.Program j) q a =
        let same : j ≡ i = cc in
        let z : Some T.is.0 ≡ None = sym T.is.1 ∙ ap (slice_get m.table.rules.items) (a.0 ∙ same) ∙ none in
        cc

-- nothing changes by it
pub same_more : (m n : Machine) → n ≡ m → IsMore m n
same_more m n e = subst (IsMore m) (sym e) (types_more m m.branch.next_type (omega arith))

-- what is bound
pub bound_more : (m n : Machine) → IsBoundIn m n → IsMore m n
bound_more m n h = record {
  bank = h.bank;
  bindings = h.bindings;
  blocks = subst (λ z. GoesOn m.scopes.blocks.items z.blocks.items) (sym h.scopes) (goes_on_same m.scopes.blocks.items);
  values = subst (λ z. GoesOn m.scopes.values.items z.values.items) (sym h.scopes) (goes_on_same m.scopes.values.items);
  next = h.more;
  next_type = subst (λ k. m.branch.next_type ≤ k) (sym h.next_type) (omega arith);
  table = h.table;
  index = h.index;
  frames = h.frames;
  assumptions = h.assumptions;
  newest = h.newest;
  standings = h.standings;
  choices = h.choices;
  denied = h.denied;
  counts = h.counts;
}

-- what stands in the bank
pub pairs_stand : (m n : Machine) → Extends m.bank n.bank → n.branch.pairs ≡ m.branch.pairs → StandPairs m → StandPairs n
pairs_stand m n E e s = subst (λ ps. All (IsPairOf (length n.bank.terms)) ps.items) (sym e) (pairs_later m.bank n.bank m.branch.pairs.items E s)

todo_later : (m n : ℕ) → m ≤ n → (w : Todo) → IsTodoIn m w → IsTodoIn n w
todo_later m n l (Todo.Goals s) h = h
todo_later m n l (Todo.Term u) h = omega (arith, h, l)

more_stands : (m n : Machine) → IsMore m n → AreValues n.bank n.scopes.values.items → StandsIn m → StandsIn n
more_stands m n g v i = record {
  table = subst (IsTableIn (length n.bank.terms)) (sym g.table) (table_later m.bank n.bank g.bank m.table i.table);
  values = v;
  frames = subst (λ fs. All (λ (f : Frame). IsTodoIn (length n.bank.terms) f.todo) fs.items) (sym g.frames)
      (All-weaker (λ (f : Frame). IsTodoIn (length m.bank.terms) f.todo) (λ (f : Frame). IsTodoIn (length n.bank.terms) f.todo) (λ f h. todo_later (length m.bank.terms) (length n.bank.terms) g.bank.more_terms f.todo h) m.frames.items i.frames);
}

-- the goal's arguments, the first as it was looked at
pub call_values : (m : Machine) (call : Call) (head : TermId) (olds args : List TermId) → args ≡ with_first call.first olds → IsNoApplication (tree m.bank head.0) → All (λ t. t.0 < length m.bank.terms) olds →
    apply (tree m.bank head.0) (trees_of m.bank olds) ≡ tree m.bank call.goal.0 → IsGoalOf m call → AreValues m.bank args
call_values m call head olds args fa alone inside spine G =
    goal_values m.bank (goal_of m call) args (subst (All (λ (t : TermId). t.0 < length m.bank.terms)) (sym fa) (first_within m.bank call.first olds inside G.first))
    (spine_arguments (tree m.bank head.0) (goal_of m call) (trees_of m.bank args) alone (goal_spine m call head olds args fa alone spine)) G.shut

module _ (m mid o n : Machine) (candidate : Candidate) (p : ℕ × Values) (args : List TermId) (cl : IsClauseOf m mid candidate p) (op : OpensMore mid o args) (b : IsBoundIn o n) where
  pub head_more : IsMore m n
  head_more = more_then m mid n (clause_more m mid candidate p cl) (more_then mid o n op.more (bound_more o n b))

  pub head_residual : (StandPairs o → StandPairs n) → StandPairs m → StandPairs n
  head_residual f s = f (pairs_stand m o (subst (λ c. Extends c o.bank) (told_bank m mid candidate p cl) op.more.bank) (op.pairs ∙ told_pairs m mid candidate p cl) s)

  pub head_stands : (call : Call) (head : TermId) (olds : List TermId) → args ≡ with_first call.first olds → IsNoApplication (tree m.bank head.0) → All (λ t. t.0 < length m.bank.terms) olds →
      apply (tree m.bank head.0) (trees_of m.bank olds) ≡ tree m.bank call.goal.0 → StandsIn m → IsGoalOf m call → StandsIn n
  head_stands call head olds fa alone inside spine st G =
      let v : AreValues mid.bank args = subst (λ c. AreValues c args) (sym (told_bank m mid candidate p cl)) (call_values m call head olds args fa alone inside spine G) in
      let w : AreValues mid.bank mid.scopes.values.items = subst (λ z. AreValues mid.bank z.values.items) (sym (told_scopes m mid candidate p cl)) (subst (λ c. AreValues c m.scopes.values.items) (sym (told_bank m mid candidate p cl)) st.values) in
      more_stands m n head_more (subst (λ z. AreValues n.bank z.values.items) (sym b.scopes) (values_later o.bank n.bank b.bank o.scopes.values.items (op.stands v w))) st

-- a try that came to nothing
pub head_alone : (m n : Machine) (call : Call) → IsMore m n → (StandPairs m → StandPairs n) → (StandsIn m → IsGoalOf m call → StandsIn n) → GrowsByTry m n call
head_alone m n call g r s = record {
  grows = grown_still m n call.place (record {
    bank = g.bank;
    table = g.table;
    frames = subst (λ v. GoesOn m.frames.items v.items) (sym g.frames) (goes_on_same m.frames.items);
    blocks = g.blocks;
    values = g.values;
  }) g.frames (record { assumptions = g.assumptions; newest = g.newest }) g.standings g.index g.denied;
  bindings = g.bindings;
  choices = ap (λ v. v.items) g.choices;
  counts = g.counts;
  next = g.next;
  next_type = g.next_type;
  residual = r;
  stands = s;
}

-- the clause's goals come in front
pub with_body : (m n k o : Machine) (call : Call) (place : Place) → GrowsByTry m n call → KeepsCourse n k → KeepsGoals n k → KeepsAssumed n k → k.frames ≡ n.frames →
    place.assumed ≡ call.place.assumed → place.standing ≡ call.place.standing → KeepsGoals k o → KeepsAssumed k o → HasFrameAt k o place → o.choices.items ≡ k.choices.items → o.denied ≡ k.denied →
    o.counts ≡ k.counts → o.branch.next ≡ k.branch.next → o.branch.next_type ≡ k.branch.next_type → o.branch.pairs ≡ k.branch.pairs → (StandsIn n → StandsIn k) → (StandsIn k → StandsIn o) → GrowsByTry m o call
with_body m n k o call place g course noted assumed frames ea es goals named frame choices denied counts next next_type pairs sk so = record {
  grows = grown_then m n o call.place g.grows (grown_then n k o call.place (grown_kept n k call.place noted frames assumed course.denied) (grown_by k o call.place place ea es (grown_frame k o place goals named frame denied)));
  bindings = subst (Grows m.bindings) (sym (goals.known.bindings ∙ noted.known.bindings)) g.bindings;
  choices = choices ∙ course.choices ∙ g.choices;
  counts = counts ∙ course.counts ∙ g.counts;
  next = subst (λ j. m.branch.next ≤ j) (sym (next ∙ ap (λ b. b.next) course.branch)) g.next;
  next_type = subst (λ j. m.branch.next_type ≤ j) (sym (next_type ∙ ap (λ b. b.next_type) course.branch)) g.next_type;
  residual = λ r. pairs_stand n o (subst (λ c. Extends n.bank c) (sym (goals.known.bank ∙ noted.known.bank)) (extends_same n.bank)) (pairs ∙ ap (λ b. b.pairs) course.branch) (g.residual r);
  stands = λ i h. so (sk (g.stands i h));
}
