-- Clauses that are assumed stay written.
use Rattle.std.proofs.Common.{◌≡◌, ℕ, suc, ◌-◌, ◌<◌, ◌≤◌, Bool, true, false, nat_lt, List, refl, sym, subst, arith, Some}
use Rattle.std.specs.Prelude.{All, slice_get}
use Rattle.std.proofs.lemmas.Bool.Decides.{nat_tests}
use Rattle.lp_lemmas.proofs.Elements.{All_pushed}
use Rattle.lp_term.specs.Nodes.{Nodes, Extends}
use Rattle.lp_term.proofs.Trees.{extends_same}
use Rattle.lp_pattern.specs.Growing.{GoesOn}
use Rattle.lp_pattern.proofs.Keeps.{goes_on_same}
use Rattle.lp_plain.specs.declared.frame.Place.{Place}
use Rattle.lp_plain.specs.declared.machine.Machine.{Machine}
use Rattle.lp_plain.specs.declared.table.Rule.{Rule}
use Rattle.lp_plain.specs.Assuming.{AssumesMore, IsStood}
use Rattle.lp_plain.specs.Entries.{GrowsGoals}
use Rattle.lp_plain.specs.Scopes.{blocks_of}
use Rattle.lp_plain.specs.Tables.{Shown, shown}
use Rattle.lp_plain.specs.WrittenSearch.{PushesRule, WritesRules}
use Rattle.lp_plain.specs.WrittenTable.{IsWrittenClause, IsWrittenTodo, WrittenRule, WrittenRules, more_rules, no_rule}
use Rattle.lp_plain.proofs.Growing.{grows_kept, grows_then}
use Rattle.lp_plain.proofs.Opening.{same_stands}
use Rattle.lp_plain.proofs.WrittenGrows.{clause_written, older_written}
use Rattle.lp_plain.proofs.WrittenSearches.{search_grows}

-- a clause of some
pub rule_within : (b : Nodes) (t : Shown) (ar : ℕ → ℕ) (k : ℕ) (bs : List Bool) (from to i : ℕ) → WrittenRules b t ar k bs from to → from ≤ i → i < to →
    ((r : Rule) × (slice_get t.rules i ≡ Some r) × (r.type_vars ≡ 0)) × WrittenRule b t ar k bs i
rule_within b t ar k bs from to i (no_rule e) l m = absurd (omega (arith, e, l, m))
rule_within b t ar k bs from to i (more_rules r e z w ws) l m = go (nat_lt from i) refl (λ h. rule_within b t ar k bs (suc from) to i ws h m)
  where
    go : (x : Bool) → nat_lt from i ≡ x → ((suc from ≤ i) → ((r : Rule) × (slice_get t.rules i ≡ Some r) × (r.type_vars ≡ 0)) × WrittenRule b t ar k
        bs i) → ((r : Rule) × (slice_get t.rules i ≡ Some r) × (r.type_vars ≡ 0)) × WrittenRule b t ar k bs i
    go true q f = f (let h : from < i = grind (arith, nat_tests, q) in omega (arith, h))
    go false q f =
        let h : i ≤ from = grind (arith, nat_tests, q) in
        let same : from ≡ i = omega (arith, h, l) in
        ((r, subst (λ j. slice_get t.rules j ≡ Some r) same e, z), subst (WrittenRule b t ar k bs) same w)

pub one_more_written : (m n o : Machine) (from to left : ℕ) (p : Place) → AssumesMore m n → AssumesMore n o → PushesRule n o (left - 1) p.values →
    from < left → left ≤ to → WritesRules m n p from to → WritesRules m o p from to
one_more_written m n o from to left p g h x l u f ar i w s =
    let z = f ar i w s in
    let k = same_stands m n g.goals g.frames i in
    let r = rule_within m.bank (shown m.table) ar w.type_vars w.binders from to (left - 1) w.is (omega (arith, l)) (omega (arith, l, u)) in
    let go : GrowsGoals n o = grows_kept n o h.goals in
    let all : GrowsGoals m o = grows_then m n o (grows_kept m n g.goals) go in
    let one : IsWrittenClause m.bank (shown m.table) ar (blocks_of m.scopes) (record { rule = left - 1; values = p.values; older = x.0 }) = record {
      rule = r.0.0;
      there = r.0.1;
      alone = r.0.2;
      written = record { type_vars = w.type_vars; binders = w.binders; values = w.values; scope_holds = w.scope_holds; have = w.have; is = r.1 };
    } in
    let new = subst (λ t. IsWrittenClause o.bank (shown t) ar (blocks_of o.scopes) (record { rule = left - 1; values = p.values; older = x.0 })) (sym all.table)
    (clause_written m.bank o.bank all.bank m.table i.table (blocks_of m.scopes) (blocks_of o.scopes) i.values all.blocks all.values ar
    (record { rule = left - 1; values = p.values; older = x.0 }) one) in
    let old = older_written n o k go ar n.frames.items n.assumptions.items k.frames z.at_work in
    search_grows n o k go h.assumptions h.course.choices ar (record {
      goals = subst (λ fs. All (λ f. IsWrittenTodo o.bank (shown o.table) ar (blocks_of o.scopes) f.place.values.scope f.todo) fs.items) (sym h.frames) old.goals;
      clauses = All_pushed (IsWrittenClause o.bank (shown o.table) ar (blocks_of o.scopes)) o.assumptions.items n.assumptions.items _ x.1 old.clauses new;
    }) z

-- what is written in assumed clauses is kept
pub stood_more : (m n : Machine) (free : ℕ) (p : Place) (number : ℕ) → IsStood m n free p number → GrowsGoals m n
stood_more m n free p number s = record {
  bank = subst (λ b. Extends m.bank b) (sym s.bank) (extends_same m.bank);
  table = s.table;
  frames = subst (λ v. GoesOn m.frames.items v.items) (sym s.frames) (goes_on_same m.frames.items);
  blocks = subst (λ z. GoesOn m.scopes.blocks.items z.blocks.items) (sym s.scopes) (goes_on_same m.scopes.blocks.items);
  values = subst (λ z. GoesOn m.scopes.values.items z.values.items) (sym s.scopes) (goes_on_same m.scopes.values.items);
}
