-- A rule delays no pair of pattern terms, and what it gives are such pairs, or values that are pattern terms.
use Rattle.std.proofs.Common.{◌≡◌, ℕ, suc, List, [], ◌∷◌, map, length, Bool, true, false, Option, Some, None, refl, sym, ap, ◌∙◌, subst as transport, arith, nat_eq}
use Rattle.std.specs.Prelude.{◌&&◌, option_map, option_and_then}
use Rattle.std.proofs.lemmas.Option.{same_Some, option_and_then_some}
use Rattle.lp_calculus.specs.Term.{Term, atom, apply, Atom, eigen, logic, constant, integer, text, param}
use Rattle.lp_calculus.specs.Convert.{ReducesTo}
use Rattle.lp_calculus.specs.Fill.{Within, abstracted}
use Rattle.lp_calculus.proofs.Fills.{within_more}
use Rattle.lp_calculus.proofs.Steps.{within_reduces}
use Rattle.lp_model.specs.Same.{same_name}
use Rattle.lp_model.specs.Types.{TypeBinding, TypeOutcome, none, solved, solve_types}
use Rattle.lp_model.specs.Look.{Look, an_abs, rigid, flexible, look, pattern_of, are_distinct, are_above}
use Rattle.lp_model.specs.Pair.{Pair, put_types_in}
use Rattle.lp_model.specs.Scan.{Side, Scanned, broken, whole, scan, Pruned, prune, settle}
use Rattle.lp_model.specs.Rule.{compare_all, type_pairs, Verdict, fails, gives, binds, delays, Ruled, ruled, opened, argument_pairs, with_types, decompose, joined, bound, has_head, solve_for, side, by_pattern, pattern_side, by_rule_5, by_rule_4, dear, by_looks, rule}
use Rattle.lp_unify_laws.specs.Levels.{IsPair, IsPairAtom, UpTo}
use Rattle.lp_unify_laws.proofs.Firm.{IsFirm, look_firm}
use Rattle.lp_unify_laws.proofs.Looks.{seen, look_reduces}
use Rattle.lp_unify_laws.proofs.Prunings.{pair_seen}
use Rattle.lp_unify_laws.proofs.Sames.{both, same_number, number_same}
use Rattle.lp_unify_laws.proofs.Scans.{Seen}
use Rattle.lp_unify_laws.proofs.Settles.{settle_tells}
use Rattle.lp_pattern_laws.specs.Patterns.{IsPattern, ArePatternPairs}
use Rattle.lp_pattern_laws.proofs.Comes.{on_eigen, pattern_goes}
use Rattle.lp_pattern_laws.proofs.Looked.{stands_on_pattern}
use Rattle.lp_pattern_laws.proofs.Filled.{above_new}
use Rattle.lp_pattern_laws.proofs.PutForms.{HavePatterns, pattern_abstracted, pattern_instance}
use Rattle.lp_pattern_laws.proofs.Scanned.{AllPatterns, arguments_patterns, head_seen, IsWell, scan_well, mapped}
use Rattle.lp_pattern_laws.proofs.Pruned.{patterns_last, IsPrunedWell, prune_well, joined_pattern}

-- nothing is delayed
abbrev pub IsRuledWell : Verdict → Type 0
IsRuledWell fails = Unit {0}
IsRuledWell (gives ts ps) = ArePatternPairs ps
IsRuledWell (binds bs next) = HavePatterns bs
IsRuledWell delays = ⊥

put_types_pattern : (made : List TypeBinding) (t : Term) → IsPattern t → IsPattern (put_types_in made t)
put_types_pattern [] t p = p
put_types_pattern (b ∷ bs) t p = put_types_pattern bs _ (pattern_instance _ p)

all_typed : (made : List TypeBinding) (ts : List Term) → AllPatterns ts → AllPatterns (map (put_types_in made) ts)
all_typed made [] h = tt
all_typed made (t ∷ ts) h = (put_types_pattern made t h.0, all_typed made ts h.1)

arguments_paired : (level : ℕ) (ts us : List Term) → AllPatterns ts → AllPatterns us → ArePatternPairs (argument_pairs level ts us)
arguments_paired level [] us h k = tt
arguments_paired level (t ∷ ts) [] h k = tt
arguments_paired level (t ∷ ts) (u ∷ us) h k = ((h.0, k.0), arguments_paired level ts us h.1 k.1)

with_types_well : (level : ℕ) (ts us : List Term) → AllPatterns ts → AllPatterns us → (o : TypeOutcome) → IsRuledWell (with_types level ts us o).verdict
with_types_well level ts us h k (none u) = tt
with_types_well level ts us h k (solved made u) = arguments_paired level (map (put_types_in made) ts) (map (put_types_in made) us) (all_typed made ts h) (all_typed made us k)

abbrev RuledSo : Ruled → Type 0
RuledSo r = IsRuledWell r.verdict

decompose_well : (n level : ℕ) (h g : Term) (ts us : List Term) (r : Ruled) → AllPatterns ts → AllPatterns us → decompose n level h ts g us ≡ Some r → IsRuledWell r.verdict
decompose_well n level h g ts us r p q e = elim (same_name h g && nat_eq (length ts) (length us)) as
    (λ b. (elim b [ true ↦ option_map (with_types level ts us) (solve_types n (type_pairs h g) [] 0) | false ↦ Some (ruled 0 fails) ]) ≡ Some r →
    IsRuledWell r.verdict) [
      | true ↦ λ i. mapped (with_types level ts us) (solve_types n (type_pairs h g) [] 0) r i RuledSo (λ o j. with_types_well level ts us p q o)
      | false ↦ λ i. transport RuledSo (same_Some (ruled 0 fails) r i) tt
    ] e

up_to_pair : (next n : ℕ) (a : Atom) → IsPairAtom next n a → UpTo n a
up_to_pair next n (eigen k) w = w
up_to_pair next n (logic x l) w = tt
up_to_pair next n (constant c ts) w = tt
up_to_pair next n (integer z) w = tt
up_to_pair next n (text s) w = tt
up_to_pair next n (param i t) w = tt

-- a variable on a pattern against a pattern term of which it is not the head
module _ (s : Side) (distinct : are_distinct s.arguments ≡ true) (above : are_above s.level s.arguments ≡ true) (n next : ℕ) (t : Term) (p : IsPattern t)
    (w : Within (IsPairAtom next s.pair) 0 t) (r : Ruled) where
  settled_well : (u : ℕ) (x : Pruned) → IsPrunedWell s x → option_map (λ t'. ruled u (binds (bound s x.bindings t') x.next)) (settle n s.pair x.term) ≡ Some r → IsRuledWell r.verdict
  settled_well u x h e = mapped (λ t'. ruled u (binds (bound s x.bindings t') x.next)) (settle n s.pair x.term) r e RuledSo (λ t' i.
      let up = within_more (IsPairAtom x.next s.pair) (UpTo s.pair) 0 0 (up_to_pair x.next s.pair) (omega arith) x.term h.within in
      let c = (settle_tells n s.pair x.term t' up i).reduces in
      let value = pattern_abstracted (UpTo s.pair) s.arguments t' (pattern_goes c h.term) (within_reduces (UpTo s.pair) 0 c up) in
      patterns_last x.bindings (record { id = s.id; level = s.level; value = abstracted s.arguments t' }) h.bindings value)

  scanned_well : (x : Scanned) → IsWell x → (elim x [
    | broken u ↦ Some (ruled u fails)
    | whole u true ps ↦ Some (ruled u delays)
    | whole u false ps ↦ option_and_then (λ y. option_map (λ t'. ruled u (binds (bound s y.bindings t') y.next)) (settle n s.pair y.term)) (prune n s next t)
  ]) ≡ Some r → IsRuledWell r.verdict
  scanned_well (broken u) h e = transport RuledSo (same_Some (ruled u fails) r e) tt
  scanned_well (whole u true ps) h e = absurd (let q = h.0 in cc)
  scanned_well (whole u false ps) h e = option_and_then_some _ (prune n s next t) r e λ y i q. settled_well u y (prune_well s distinct above n next t y p w i) q

  pub solved_well : (v : Look) → has_head s v ≡ false → solve_for n next s t v ≡ Some r → IsRuledWell r.verdict
  solved_well v no_head e =
      let e' : option_and_then (λ x. elim x [
        | broken u ↦ Some (ruled u fails)
        | whole u true ps ↦ Some (ruled u delays)
        | whole u false ps ↦ option_and_then (λ y. option_map (λ t'. ruled u (binds (bound s y.bindings t') y.next)) (settle n s.pair y.term)) (prune n s next t)
      ]) (scan n s false s.pair t) ≡ Some r = sym (ap (λ (b : Bool). elim b as (λ z. Option Ruled) [
        | true ↦ Some (ruled 0 delays)
        | false ↦ option_and_then (λ x. elim x [
          | broken u ↦ Some (ruled u fails)
          | whole u true ps ↦ Some (ruled u delays)
          | whole u false ps ↦ option_and_then (λ y. option_map (λ t'. ruled u (binds (bound s y.bindings t') y.next)) (settle n s.pair y.term)) (prune n s next t)
        ]) (scan n s false s.pair t)
      ]) no_head) ∙ e in
      option_and_then_some _ (scan n s false s.pair t) r e' λ x i q.
      scanned_well x (scan_well n s next s.pair t x (omega arith) p (within_more (IsPairAtom next s.pair) (Seen next s.pair s.pair) 0 0 (pair_seen next s.pair) (omega arith) t w) i) q

-- the same variable stands on as many arguments on both sides
abbrev pub SameLength : Pair → Type 0
SameLength p = (x l : ℕ) (ts us : List Term) → ReducesTo p.left (apply (atom (logic x l)) ts) → ReducesTo p.right (apply (atom (logic x l)) us) → length ts ≡ length us

-- the side of a variable on a pattern
record IsSideOf (p : Pair) (x l : ℕ) (a : Option Side) : Type 0 where
  arguments : List ℕ
  is : a ≡ Some (side x l arguments p)
  distinct : are_distinct arguments ≡ true
  above : are_above l arguments ≡ true

module _ (next : ℕ) (p : Pair) (left : IsPattern p.left) (right : IsPattern p.right) (w : IsPair next p) (same : SameLength p) (n : ℕ) (r : Ruled) where
  side_of : (x l : ℕ) (ts : List Term) → IsPattern (apply (atom (logic x l)) ts) → Within (IsPairAtom next p.level) 0 (apply (atom (logic x l)) ts) →
      (a : Option Side) → pattern_side n p (flexible x l ts) ≡ Some a → IsSideOf p x l a
  side_of x l ts q v a e = mapped (option_map (λ ks. side x l ks p)) (pattern_of n l ts) a e (IsSideOf p x l) (λ o i.
      let (ks, is, d, ab) = stands_on_pattern (IsPairAtom next p.level) n x l ts q v o i in
      record { arguments = ks; is = ap (option_map (λ js. side x l js p)) is; distinct = d; above = ab })

  flexible_left : (x l : ℕ) (ts : List Term) (v : Look) → IsPattern (apply (atom (logic x l)) ts) → Within (IsPairAtom next p.level) 0
      (apply (atom (logic x l)) ts) → ((ks : List ℕ) → has_head (side x l ks p) v ≡ false) →
      by_rule_5 n next p (flexible x l ts) v ≡ Some r → IsRuledWell r.verdict
  flexible_left x l ts v q u no_head e = option_and_then_some _ (pattern_side n p (flexible x l ts)) r e λ a i f. option_and_then_some _ (pattern_side n p v) r f λ b j g.
      let s = side_of x l ts q u a i in
      solved_well (side x l s.arguments p) s.distinct s.above n next p.right right w.1 r v (no_head s.arguments) (sym (ap (λ a. by_pattern n next p (flexible x l ts) v a b) s.is) ∙ g)

  flexible_right : (h : Term) (ts : List Term) (y m : ℕ) (us : List Term) → IsPattern (apply (atom (logic y m)) us) → Within (IsPairAtom next p.level) 0 (apply (atom (logic y m)) us) →
      by_rule_5 n next p (rigid h ts) (flexible y m us) ≡ Some r → IsRuledWell r.verdict
  flexible_right h ts y m us q u e = option_and_then_some _ (pattern_side n p (flexible y m us)) r e λ b j g.
      let s = side_of y m us q u b j in
      solved_well (side y m s.arguments p) s.distinct s.above n next p.left left w.0 r (rigid h ts) refl (sym (ap (λ b. by_pattern n next p (rigid h ts) (flexible y m us) None b) s.is) ∙ g)

  joined_well : (x l : ℕ) (ts us : List Term) → IsPattern (apply (atom (logic x l)) ts) → Within (IsPairAtom next p.level) 0 (apply (atom (logic x l)) ts) →
      IsPattern (apply (atom (logic x l)) us) → Within (IsPairAtom next p.level) 0 (apply (atom (logic x l)) us) → (z : Ruled) → by_rule_4 n next p x l ts us ≡ Some z → IsRuledWell z.verdict
  joined_well x l ts us q u q' u' z e = option_and_then_some _ (pattern_of n l ts) z e λ a i f. option_and_then_some _ (pattern_of n l us) z f λ b j g.
      let (ks, is, d, ab) = stands_on_pattern (IsPairAtom next p.level) n x l ts q u a i in
      let (js, is', d', ab') = stands_on_pattern (IsPairAtom next p.level) n x l us q' u' b j in
      go ks js d ab a b is is' g
    where
      go : (ks js : List ℕ) → are_distinct ks ≡ true → are_above l ks ≡ true → (a b : Option (List ℕ)) → a ≡ Some ks → b ≡ Some js → (elim a [
        | None ↦ by_rule_5 n next p (flexible x l ts) (flexible x l us)
        | Some a ↦ elim b [
          | None ↦ by_rule_5 n next p (flexible x l ts) (flexible x l us)
          | Some b ↦ Some (ruled 0 (joined next x l a b))
        ]
      ]) ≡ Some z → IsRuledWell z.verdict
      go ks js d ab None b i j f = absurd (cc)
      go ks js d ab (Some a) None i j f = absurd (cc)
      go ks js d ab (Some a) (Some b) i j f =
          let e : a ≡ ks = same_Some a ks i in
          transport RuledSo (same_Some (ruled 0 (joined next x l a b)) z f)
          (joined_pattern a b next l (transport (λ c. are_distinct c ≡ true) (sym e) d) (transport (λ c. are_above l c ≡ true) (sym e) ab), tt)

  opened_well : ArePatternPairs (opened p ∷ [])
  opened_well = (
    (
      on_eigen p.left (suc p.level) left (above_new next p.level 0 p.left w.0 (suc p.level) (omega arith)),
      on_eigen p.right (suc p.level)
          right (above_new next p.level 0 p.right w.1 (suc p.level) (omega arith)),
    ),
    tt,
  )

  looks_well : (v u : Look) → IsFirm v → IsFirm u → ReducesTo p.left (seen v) → ReducesTo p.right (seen u) → IsPattern (seen v) → IsPattern (seen u)
      → Within (IsPairAtom next p.level) 0 (seen v) → Within (IsPairAtom next p.level) 0 (seen u) → by_looks n next p v u ≡ Some r → IsRuledWell r.verdict
  looks_well (an_abs b) u f g c d i j a z e = transport RuledSo (same_Some (ruled 0 (gives [] (opened p ∷ []))) r e) opened_well
  looks_well (rigid h ts) (an_abs b) f g c d i j a z e = transport RuledSo (same_Some (ruled 0 (gives [] (opened p ∷ []))) r e) opened_well
  looks_well (flexible x l ts) (an_abs b) f g c d i j a z e = transport RuledSo (same_Some (ruled 0 (gives [] (opened p ∷ []))) r e) opened_well
  looks_well (rigid h ts) (rigid g us) f k c d i j a z e = decompose_well n p.level h g ts us r (arguments_patterns ts h (head_seen h f) i).1 (arguments_patterns us g (head_seen g k) j).1 e
  looks_well (rigid h ts) (flexible y m us) f g c d i j a z e = flexible_right h ts y m us j z e
  looks_well (flexible x l ts) (rigid h us) f g c d i j a z e = flexible_left x l ts (rigid h us) i a (λ ks. refl) e
  looks_well (flexible x l ts) (flexible y m us) firm_left firm_right c d i j a z e =
      elim (nat_eq x y && nat_eq l m && nat_eq (length ts) (length us)) as (λ b. (nat_eq x y && nat_eq l m && nat_eq (length ts) (length us)) ≡ b → (elim b [
        | true ↦ option_and_then (λ c. elim c.same [
          | true ↦ Some (ruled c.units (gives [] []))
          | false ↦ option_map (dear c.units) (by_rule_4 n next p x l ts us)
        ]) (compare_all n p.level ts us)
        | false ↦ by_rule_5 n next p (flexible x l ts) (flexible y m us)
      ]) ≡ Some r → IsRuledWell r.verdict) [
        | true ↦ λ f q.
            let b = both (nat_eq x y && nat_eq l m) (nat_eq (length ts) (length us)) f in
            let b' = both (nat_eq x y) (nat_eq l m) b.0 in
            compared (same_number x y b'.0) (same_number l m b'.1) q
        | false ↦ λ f q. flexible_left x l ts (flexible y m us) i a (λ ks. other f) q
      ] refl e
    where
      compared : x ≡ y → l ≡ m → option_and_then (λ c. elim c.same [
        | true ↦ Some (ruled c.units (gives [] []))
        | false ↦ option_map (dear c.units) (by_rule_4 n next p x l ts us)
      ]) (compare_all n p.level ts us) ≡ Some r → IsRuledWell r.verdict
      compared e₁ e₂ q = option_and_then_some _ (compare_all n p.level ts us) r q λ c hc hq.
          elim c.same as (λ b. (elim b [
            | true ↦ Some (ruled c.units (gives [] []))
            | false ↦ option_map (dear c.units) (by_rule_4 n next p x l ts us)
          ]) ≡ Some r → IsRuledWell r.verdict) [
            | true ↦ λ o. transport RuledSo (same_Some (ruled c.units (gives [] [])) r o) tt
            | false ↦ λ o. mapped (dear c.units) (by_rule_4 n next p x l ts us) r o RuledSo (λ k h.
                joined_well x l ts us i a (transport (λ v. IsPattern (apply v us)) (λ t. atom (logic (sym e₁ t) (sym e₂ t))) j)
                (transport (λ v. Within (IsPairAtom next p.level) 0 (apply v us)) (λ t. atom (logic (sym e₁ t) (sym e₂ t))) z) k h)
          ] hq

      other : (nat_eq x y && nat_eq l m && nat_eq (length ts) (length us)) ≡ false → (nat_eq y x && nat_eq m l) ≡ false
      other f = elim (nat_eq y x && nat_eq m l) as (λ b. (nat_eq y x && nat_eq m l) ≡ b → b ≡ false) [
        | false ↦ λ q. refl
        | true ↦ λ q.
            let b = both (nat_eq y x) (nat_eq m l) q in
            let e₁ : y ≡ x = same_number y x b.0 in
            let e₂ : m ≡ l = same_number m l b.1 in
            let lengths : length ts ≡ length us = same x l ts us c (transport (λ v. ReducesTo p.right (apply v us)) (λ t. atom (logic (e₁ t) (e₂ t))) d) in
            let all : (nat_eq x y && nat_eq l m && nat_eq (length ts) (length us)) ≡ true =
            ap (λ k. (k && nat_eq l m) && nat_eq (length ts) (length us)) (ap (nat_eq x) e₁ ∙ number_same x) ∙ ap
            (λ k. k && nat_eq (length ts) (length us)) (ap (nat_eq l) e₂ ∙ number_same l) ∙
            (ap (nat_eq (length ts)) (sym lengths) ∙ number_same (length ts)) in
            absurd (let k : true ≡ false = sym all ∙ f in cc)
      ] refl

  pub rule_well : rule n next p ≡ Some r → IsRuledWell r.verdict
  rule_well e = option_and_then_some _ (look n p.left) r e λ v i f. option_and_then_some _ (look n p.right) r f λ u j g.
      let c = look_reduces n p.left v i in
      let d = look_reduces n p.right u j in
      looks_well v u (look_firm n p.left v i) (look_firm n p.right u j) c d (pattern_goes c left) (pattern_goes d right)
      (within_reduces (IsPairAtom next p.level) 0 c w.0) (within_reduces (IsPairAtom next p.level) 0 d w.1) g
