-- A goal that assumes clauses is taken apart as the definition takes it.
use Rattle.std.proofs.Common.{◌≡◌, ℕ, ◌<◌, ◌≤◌, List, [], ◌∷◌, ◌++◌, length, inl, inr, refl, sym, ap, ◌∙◌, subst, arith, Bool, true, false, Option, None, Some, nat_eq}
use Rattle.std.specs.Prelude.{◌⊎◌, All, slice_get, if◌then◌else◌}
use Rattle.std.proofs.lemmas.Bool.Decides.{nat_tests}
use Rattle.std.proofs.lemmas.List.{length-append}
use Rattle.lp_lemmas.proofs.Elements.{All_pushed}
use Rattle.lp_lemmas.proofs.Lists.{get_push}
use Rattle.lp_lemmas.proofs.Numbers.{nat_eq_self}
use Rattle.lp_calculus.specs.Term.{Term}
use Rattle.lp_term.specs.Nodes.{Extends}
use Rattle.lp_term.proofs.Trees.{extends_same, extends-trans}
use Rattle.lp_model.specs.Branch.{Branch, Entry, entries, both_written}
use Rattle.lp_model.specs.Flat.{Assume, Clause, Clauses, Goal, Goals, Written, clause_list, collect_clauses, goal_list, written_in_clauses}
use Rattle.lp_model.specs.Search.{look_goal}
use Rattle.lp_pattern.specs.Growing.{GoesOn}
use Rattle.lp_pattern.proofs.Keeps.{goes_on_same, goes_on_then}
use Rattle.lp_plain.specs.declared.frame.Frame.{Frame}
use Rattle.lp_plain.specs.declared.frame.Place.{Place}
use Rattle.lp_plain.specs.declared.machine.Machine.{Machine}
use Rattle.lp_plain.specs.declared.openness.Standing.{Standing}
use Rattle.lp_plain.specs.declared.table.Span.{Span}
use Rattle.lp_plain.specs.Apart.{apart}
use Rattle.lp_plain.specs.Assuming.{Lists, ListsGrow, lists_of, ArePlaced, AssumesFor, AssumesMore, GrowsOn, HasAssumed, HasFrameAt, HasWritten, IsLaterAround, IsNumberIn, IsPlaceAt, IsStood, IsTreeOf, KeepsAssumed, clauses_in, written_at}
use Rattle.lp_plain.specs.Entries.{Around, GrowsGoals, IsBehind, IsListAt, IsOf, KeepsGoals, Reads, entry_at, in_scope, placed}
use Rattle.lp_plain.specs.Keeping.{KeepsCourse}
use Rattle.lp_plain.specs.Scopes.{blocks_of}
use Rattle.lp_plain.specs.Tables.{AreClausesOf, IsNumbered, shown}
use Rattle.lp_plain.specs.Within.{StandsIn}
use Rattle.lp_plain.proofs.Assumed.{Assumes, entries_on, has_on, lists_noted, more_grows, number_in_more, places_on, rules_none, stood}
use Rattle.lp_plain.proofs.Growing.{grows_kept, grows_then, of_later, reads_later}
use Rattle.lp_plain.proofs.Opening.{bank_grows, bank_stands, same_stands}
use Rattle.lp_plain.proofs.Within.{longer_list}

-- one number stands for something else

abbrev same_number : Option ℕ → Option ℕ → Bool
same_number None None = true
same_number None (Some j) = false
same_number (Some i) None = false
same_number (Some i) (Some j) = nat_eq i j

same_number_self : (o : Option ℕ) → same_number o o ≡ true
same_number_self None = refl
same_number_self (Some i) = nat_eq_self i

same_number_is : (o p : Option ℕ) → same_number o p ≡ true → o ≡ p
same_number_is None None e = refl
same_number_is None (Some j) e = absurd (cc)
same_number_is (Some i) None e = absurd (cc)
same_number_is (Some i) (Some j) e = let q : i ≡ j = grind (arith, nat_tests, e) in ap (λ x. Some x) q

not_fresh : (n i : ℕ) (o : Option ℕ) → IsNumberIn n o → n ≤ i → same_number o (Some i) ≡ false
not_fresh n i None h l = refl
not_fresh n i (Some j) h l = grind (arith, nat_tests, h, l)

abbrev around : Around → (tree : Option ℕ) → List Clause → (number : ℕ) → Written → Around
around a tree cs number w = record { assumed = λ o. if same_number o tree then cs else a.assumed o; written = λ o. if same_number o (Some number) then w else a.written o; mark = a.mark }

later_around : (a : Around) (trees standings : ℕ) (before tree : Option ℕ) (cs : List Clause) (number : ℕ) (w : Written) →
    ((tree ≡ before) × (cs ≡ a.assumed before)) ⊎ ((i : ℕ) × (tree ≡ Some i) × (trees ≤ i)) → standings ≤ number →
    IsLaterAround trees standings a (around a tree cs number w)
later_around a trees standings before tree cs number w t l = record {
  assumed = λ o h. by_tree o h t;
  written = λ o h. ap (λ b. if b then w else a.written o) (not_fresh standings number o h l);
  mark = refl;
}
  where
    same_tree : (o : Option ℕ) → tree ≡ before → cs ≡ a.assumed before → (b : Bool) → same_number o tree ≡ b → (if b then cs else a.assumed o) ≡ a.assumed o
    same_tree o e f true q = f ∙ ap a.assumed (sym e ∙ sym (same_number_is o tree q))
    same_tree o e f false q = refl

    by_tree : (o : Option ℕ) → IsNumberIn trees o → ((tree ≡ before) × (cs ≡ a.assumed before)) ⊎ ((i : ℕ) × (tree ≡ Some i) × (trees ≤ i)) →
        (if same_number o tree then cs else a.assumed o) ≡ a.assumed o
    by_tree o h (inl x) = same_tree o x.0 x.1 (same_number o tree) refl
    by_tree o h (inr x) = ap (λ b. if b then cs else a.assumed o) (ap (same_number o) x.1 ∙ not_fresh trees x.0 o h x.2)

-- lists that grow twice, and by a standing

pub lists_then : (k l j : Lists) → ListsGrow k l → ListsGrow l j → ListsGrow k j
lists_then k l j g h = record {
  bank = extends-trans k.bank l.bank j.bank g.bank h.bank;
  table = h.table ∙ g.table;
  blocks = goes_on_then k.blocks.blocks l.blocks.blocks j.blocks.blocks g.blocks h.blocks;
  values = goes_on_then k.blocks.values l.blocks.values j.blocks.values g.values h.values;
  assumptions = goes_on_then k.assumptions l.assumptions j.assumptions g.assumptions h.assumptions;
  newest = goes_on_then k.newest l.newest j.newest g.newest h.newest;
  standings = goes_on_then k.standings l.standings j.standings g.standings h.standings;
}

stood_grows : (n o : Machine) (free : ℕ) (p : Place) (number : ℕ) → IsStood n o free p number → ListsGrow (lists_of n) (lists_of o)
stood_grows n o free p number s = record {
  bank = subst (λ b. Extends n.bank b) (sym s.bank) (extends_same n.bank);
  table = s.table;
  blocks = subst (λ z. GoesOn n.scopes.blocks.items z.blocks.items) (sym s.scopes) (goes_on_same n.scopes.blocks.items);
  values = subst (λ z. GoesOn n.scopes.values.items z.values.items) (sym s.scopes) (goes_on_same n.scopes.values.items);
  assumptions = subst (λ z. GoesOn n.assumptions.items z.items) (sym s.assumed.assumptions) (goes_on_same n.assumptions.items);
  newest = subst (λ z. GoesOn n.newest.items z.items) (sym s.assumed.newest) (goes_on_same n.newest.items);
  standings = (record { free = free; values = p.values; older = p.standing } ∷ [], s.more);
}

pub stood_stands : (m n o : Machine) (free : ℕ) (p : Place) (number : ℕ) → AssumesMore m n → IsStood n o free p number → StandsIn m → StandsIn o
stood_stands m n o free p number g s i = bank_stands n o (subst (λ b. Extends n.bank b) (sym s.bank) (extends_same n.bank)) s.table s.frames s.scopes (same_stands m n g.goals g.frames i)

pub put_grows : (m n o q r : Machine) (free : ℕ) (p : Place) (number : ℕ) → AssumesMore m n → IsStood n o free p number → KeepsGoals o q → KeepsCourse
    o q → KeepsAssumed o q → lists_of q ≡ lists_of r → r.frames ≡ q.frames → r.index ≡ q.index → r.denied ≡ q.denied → GrowsOn m r
put_grows m n o q r free p number g s k course ka same ef ei ed = record {
  lists = lists_then (lists_of m) (lists_of n) (lists_of r) (more_grows m n g) (subst (λ l. ListsGrow (lists_of n) l) (lists_noted o q k ka ∙ same) (stood_grows n o free p number s));
  frames = (k.frames.0, ap (λ z. z.items) ef ∙ k.frames.1 ∙ ap (λ z. z.items ++ k.frames.0) (s.frames ∙ g.frames));
  index = ei ∙ k.known.index ∙ s.index ∙ g.goals.known.index;
  denied = ed ∙ course.denied ∙ s.course.denied ∙ g.course.denied;
}

-- the place of the goals that are to be proved under the assumptions
abbrev inside : Place → (tree : Option ℕ) → (number : ℕ) → Place
inside p tree number = record { values = p.values; assumed = tree; standing = Some number; level = p.level; mark = p.mark }

module _ (m n o q r : Machine) (p : Place) (rules : Span) (list free : ℕ) (behind front tree : Option ℕ) (number : ℕ) (g : AssumesMore m n)
    (t : IsTreeOf m n rules.from rules.to p.assumed tree) (assumes : Assumes m n rules.from rules.to p tree)
    (s : IsStood n o free p number) (k : KeepsGoals o q) (course : KeepsCourse o q) (ka : KeepsAssumed o q) (frame : HasFrameAt o r (inside p tree number))
    (reads : (a : Around) (gs : List Goal) (es : List Entry) → IsListAt o (inside p tree number) list gs → Reads o a behind es → Reads r a front
    (placed a (inside p tree number) gs ++ es)) (same : lists_of q ≡ lists_of r) (eg : r.branch.goals ≡ front)
    (en : r.branch.next ≡ q.branch.next) (et : r.branch.next_type ≡ q.branch.next_type) (ec : r.choices ≡ q.choices) (stands_on : StandsIn m → StandsIn r) where
  module _ (a : Around) (cs : Clauses) (hs : Goals) (σ : ℕ → Term) (b : Branch) (i : StandsIn m) (placed_all : ArePlaced m a)
      (h : IsPlaceAt (lists_of m) a p) (clauses_are : AreClausesOf m.bank m.table rules cs)
      (numbered : IsNumbered (shown m.table).frees free (λ f. collect_clauses f 0 cs)) (of : IsOf m p list hs σ) (w : IsBehind m a behind b) where
    abbrev whole : List Clause
    whole = clause_list (clauses_in σ p.values.types cs) ++ a.assumed p.assumed

    abbrev says : Written
    says = both_written (written_at σ p.values.types (written_in_clauses cs)) (a.written p.standing)

    abbrev now : Around
    now = around a tree whole number says

    stands : StandsIn n
    stands = same_stands m n g.goals g.frames i

    grows_on : ListsGrow (lists_of n) (lists_of r)
    grows_on = subst (λ l. ListsGrow (lists_of n) l) (lists_noted o q k ka ∙ same) (stood_grows n o free p number s)

    grows_all : ListsGrow (lists_of m) (lists_of r)
    grows_all = lists_then (lists_of m) (lists_of n) (lists_of r) (more_grows m n g) grows_on

    grows : GrowsGoals m o
    grows = grows_then m n o (grows_kept m n g.goals) (bank_grows n o (subst (λ b. Extends n.bank b) (sym s.bank) (extends_same n.bank)) s.table s.frames s.scopes)

    fresh : ((tree ≡ p.assumed) × (whole ≡ a.assumed p.assumed)) ⊎ ((i : ℕ) × (tree ≡ Some i) × (length m.newest.items ≤ i))
    fresh = elim t [
      | inl x ↦ inl (x.0, ap (λ z. clause_list (clauses_in σ p.values.types z) ++ a.assumed p.assumed) (rules_none m.bank (shown m.table) rules.from rules.to cs clauses_are x.1))
      | inr x ↦ inr (x.0, x.1, x.2)
    ]

    number_is : number ≡ length m.standings.items
    number_is = s.counted ∙ ap (λ z. length z.items) g.goals.known.standings

    later : IsLaterAround (length m.newest.items) (length m.standings.items) a now
    later = later_around a (length m.newest.items) (length m.standings.items) p.assumed tree whole number says fresh (let e = number_is in omega (arith, e))

    assumed_now : now.assumed tree ≡ whole
    assumed_now = ap (λ x. if x then whole else a.assumed tree) (same_number_self tree)

    written_now : now.written (Some number) ≡ says
    written_now = ap (λ x. if x then says else a.written (Some number)) (same_number_self (Some number))

    -- what is read

    reads_behind : Reads o now behind b.goals
    reads_behind = reads_later m o i grows now behind b.goals (entries_on (lists_of m) a now later m.bank (shown m.table) (blocks_of m.scopes) placed_all w.goals)

    list_there : IsListAt o (inside p tree number) list (goal_list (in_scope σ p.values.types hs))
    list_there = let z = of_later m o i grows p list hs σ of in (hs, σ, z.0, z.1, refl)

    reads_front : Reads r now front (entries (goal_list (in_scope σ p.values.types hs)) whole says p.level (a.mark p.mark) ++ b.goals)
    reads_front =
        subst (λ es. Reads r now front (es ++ b.goals)) (λ j. entries (goal_list (in_scope σ p.values.types hs)) (assumed_now j) (written_now j) p.level (a.mark p.mark))
        (reads now (goal_list (in_scope σ p.values.types hs)) b.goals list_there reads_behind)

    -- the places

    tree_in : IsNumberIn (length r.newest.items) tree
    tree_in = elim t [
      | inl x ↦ subst (IsNumberIn (length r.newest.items)) (sym x.0) (number_in_more (length m.newest.items) (length r.newest.items) p.assumed
          (longer_list m.newest.items r.newest.items grows_all.newest) h.tree)
      | inr x ↦ subst (IsNumberIn (length r.newest.items)) (sym x.1) (let l = longer_list n.newest.items r.newest.items grows_on.newest in let j = x.3 in omega (arith, l, j))
    ]

    abbrev standing : Standing
    standing = record { free = free; values = p.values; older = p.standing }

    there : slice_get r.standings.items number ≡ Some standing
    there =
        subst (λ l. slice_get l.standings number ≡ Some standing) (lists_noted o q k ka ∙ same)
        (subst (λ z. slice_get o.standings.items z ≡ Some standing) (sym s.counted)
        (subst (λ z. slice_get z (length n.standings.items) ≡ Some standing) (sym s.more) (get_push n.standings.items standing)))

    standing_in : number < length r.standings.items
    standing_in = subst (λ l. number < length l.standings) (lists_noted o q k ka ∙ same)
        (let e = ap length s.more ∙ length-append n.standings.items (standing ∷ []) in let f = s.counted in omega (arith, e, f))

    older_in : IsNumberIn number p.standing
    older_in = number_in_more (length m.standings.items) number p.standing (let f = s.counted in let e = ap (λ z. length z.items) g.goals.known.standings in omega (arith, e, f)) h.standing

    at_inside : IsPlaceAt (lists_of r) now (inside p tree number)
    at_inside = record {
      tree = tree_in;
      standing = standing_in;
      assumed = subst (HasAssumed (lists_of r) tree) (sym assumed_now) (has_on (lists_of n) (lists_of r) stands.table stands.values grows_on tree
          whole (assumes cs (a.assumed p.assumed) σ i h.assumed clauses_are of.1));
      written = subst (HasWritten (lists_of r) (Some number)) (sym written_now) (stood (lists_of m) (lists_of r) i.table i.values grows_all number
          standing cs σ (a.written p.standing) there older_in numbered of.1 h.written);
    }

    before : All (λ (f : Frame). IsPlaceAt (lists_of r) now f.place) o.frames.items
    before = subst (λ z. All (λ (f : Frame). IsPlaceAt (lists_of r) now f.place) z.items) (sym (s.frames ∙ g.frames))
        (places_on (lists_of m) (lists_of r) i.table i.values grows_all a now m.frames.items later placed_all)

    placed_now : ArePlaced r now
    placed_now = elim frame [
      | inl e ↦ subst (All (λ (f : Frame). IsPlaceAt (lists_of r) now f.place)) (sym e) before
      | inr x ↦ All_pushed (λ (f : Frame). IsPlaceAt (lists_of r) now f.place) r.frames.items o.frames.items x.0 x.2 before (subst (IsPlaceAt (lists_of r) now) (sym x.1) at_inside)
    ]

    pub assumes_for : (u z height : ℕ) (P : List Clause) → let goal : Goal = Assume (written_at σ p.values.types (written_in_clauses cs))
        (clauses_in σ p.values.types cs) (in_scope σ p.values.types hs) in AssumesFor m r a (look_goal u z P height (entry_at a p goal) b goal)
    assumes_for u z height P = (
      now,
      later,
      placed_now,
      stands_on i,
      (
        record {
          goals = subst (λ x. Reads r now x (entries (goal_list (in_scope σ p.values.types hs)) whole says p.level (a.mark p.mark) ++ b.goals)) (sym eg) reads_front;
          next = en ∙ ap (λ x. x.next) (course.branch ∙ s.course.branch ∙ g.course.branch) ∙ w.next;
          next_type = et ∙ ap (λ x. x.next_type) (course.branch ∙ s.course.branch ∙ g.course.branch) ∙ w.next_type;
        },
        ap (λ x. x.items) ec ∙ course.choices ∙ s.course.choices ∙ g.course.choices,
      ),
    )

-- once it was counted
abbrev pub TakesAssume : (old new : Machine) → Place → Span → (list free : ℕ) → (behind : Option ℕ) → Type 0
TakesAssume m n p s l f o = (a : Around) (cs : Clauses) (hs : Goals) (σ : ℕ → Term) (b : Branch) → StandsIn m → ArePlaced m a → IsPlaceAt (lists_of m)
    a p → AreClausesOf m.bank m.table s cs → IsNumbered (shown m.table).frees f (λ f. collect_clauses f 0 cs) →
    IsOf m p l hs σ → IsBehind m a o b → (u z height : ℕ) (P : List Clause) →
    let goal : Goal = Assume (written_at σ p.values.types (written_in_clauses cs)) (clauses_in σ p.values.types cs) (in_scope σ p.values.types hs) in
    AssumesFor m n a (look_goal u z P height (entry_at a p goal) b goal)

pub assume_apart : (m c n : Machine) (p : Place) (s : Span) (l f : ℕ) (o : Option ℕ) → c ≡ apart m → TakesAssume c n p s l f o → TakesAssume m n p s l f o
assume_apart m c n p s l f o e t = λ a cs hs σ b i pl h k nu x w u z height P.
    let y : TakesAssume (apart m) n p s l f o = subst (λ z. TakesAssume z n p s l f o) e t in
    y a cs hs σ b (record { table = i.table; values = i.values; frames = i.frames }) pl h k nu x (record { goals = w.goals; next = w.next; next_type = w.next_type }) u z height P
