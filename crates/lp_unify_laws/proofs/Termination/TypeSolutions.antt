-- What type equations come to, as types for the type variables: these satisfy the bindings and are most general, so they change nothing that was
-- put already.
use Rattle.std.proofs.Common.{◌≡◌, ℕ, zero, suc, ◌+◌, List, [], ◌∷◌, ◌++◌, map, Some, refl, sym, ap, ◌∙◌, subst as transport}
use Rattle.std.proofs.lemmas.List.{append_assoc, append-nil}
use mathlib.Core.Path.{fun_ext}
use Rattle.lp_calculus.specs.Types.{Ty, var, instance}
use Rattle.lp_calculus.specs.Term.{Term}
use Rattle.lp_calculus.specs.Instance.{instance_term}
use Rattle.lp_calculus.proofs.TypeLaws.{instance-instance}
use Rattle.lp_type_laws.specs.Equations.{one, AllHold}
use Rattle.lp_type_laws.specs.Solving.{goes, Outcome, solve}
use Rattle.lp_type_laws.specs.Solving as solving
use Rattle.lp_type_laws.proofs.Counts.{after_turn}
use Rattle.lp_type_laws.proofs.Solves.{solves}
use Rattle.lp_model.specs.Types.{TypePair, TypeBinding, one_type, put_type, put_types, put_in_pair, TypeVerdict, differ, bound, type_rule, TypeOutcome, none, solved, solve_types}
use Rattle.lp_model.specs.Types as model
use Rattle.lp_model.specs.Pair.{Pair, put_types_in, type_pair}
use Rattle.lp_model.specs.Unify.{type_pairs_in}
use Rattle.lp_unify_laws.specs.TypeSolutions.{Unifies, Satisfies, equations}
use Rattle.lp_unify_laws.specs.Solutions.{instance_pair, at_types}
use Rattle.lp_unify_laws.proofs.Identities.{instance_same, map_same, pair_same, both_types, term_twice, pairs_twice}
use Rattle.lp_unify_laws.proofs.TypeSolving.{types_right}
use Rattle.lp_unify_laws.proofs.TypeTurns.{as_turn, equations_append, equations_put, behind, definition_turn, solving_turn}

-- lp_type_laws comes to the types that the bindings put
record Reached (ps : List TypePair) (made bs : List TypeBinding) (θ : ℕ → Ty) : Type 0 where
  steps : ℕ
  solution : ℕ → Ty
  more : List TypeBinding
  is : solve steps (equations ps) θ ≡ solving.solved solution
  bindings : bs ≡ made ++ more
  puts : (x : ℕ) → solution x ≡ put_types more (θ x)

solved_same : (bs cs : List TypeBinding) (u v : ℕ) → Some (solved bs u) ≡ Some (solved cs v) → bs ≡ cs
solved_same bs cs u v e = let q : solved bs u ≡ solved cs v = cc in cc

reached : (n : ℕ) (ps : List TypePair) (made : List TypeBinding) (u : ℕ) (bs : List TypeBinding) (v : ℕ) (θ : ℕ → Ty) → solve_types n ps made u ≡ Some (solved bs v) → Reached ps made bs θ
reached zero ps made u bs v θ e = absurd (cc)
reached (suc n) [] made u bs v θ e = record { steps = 0; solution = θ; more = []; is = refl; bindings = sym (solved_same made bs u v e) ∙ sym (append-nil made); puts = λ x. refl }
reached (suc n) (p ∷ ps) made u bs v θ e =
    go (type_rule p.left p.right).verdict refl (sym (definition_turn n p ps made u) ∙ e) (λ qs made u ι k. reached n qs made u bs v ι k)
  where
    w : ℕ
    w = suc u + (type_rule p.left p.right).units

    go : (o : TypeVerdict) → (type_rule p.left p.right).verdict ≡ o → behind n ps made w (type_rule p.left p.right).verdict ≡ Some (solved bs v) →
        ((qs : List TypePair) (made : List TypeBinding) (u : ℕ) (ι : ℕ → Ty) → solve_types n qs made u ≡ Some (solved bs v) → Reached qs made bs ι) → Reached (p ∷ ps) made bs θ
    go differ i k ι = absurd (let q : Some (none w) ≡ Some (solved bs v) = sym (ap (behind n ps made w) i) ∙ k in let z : none w ≡ solved bs v = cc in cc)
    go (model.parts qs) i k ι =
        let r = ι (qs ++ ps) made w θ (sym (ap (behind n ps made w) i) ∙ k) in
        record {
          steps = suc r.steps;
          solution = r.solution;
          more = r.more;
          is = solving_turn r.steps p ps θ ∙ ap (λ z. after_turn r.steps (as_turn z (equations ps) θ)) i ∙ sym (ap (λ z. solve r.steps z θ) (equations_append qs ps)) ∙ r.is;
          bindings = r.bindings;
          puts = r.puts;
        }
    go (bound b) i k ι =
        let θ' : ℕ → Ty = (λ x. instance (one b.id b.value) (θ x)) in
        let r = ι (map (put_in_pair b) ps) (made ++ b ∷ []) w θ' (sym (ap (behind n ps made w) i) ∙ k) in
        record {
          steps = suc r.steps;
          solution = r.solution;
          more = b ∷ r.more;
          is = solving_turn r.steps p ps θ ∙ ap (λ z. after_turn r.steps (as_turn z (equations ps) θ)) i ∙ sym (ap (λ z. solve r.steps z θ') (equations_put b ps)) ∙ r.is;
          bindings = r.bindings ∙ append_assoc made (b ∷ []) r.more;
          puts = r.puts;
        }

-- the types that bindings put
abbrev pub put_by : List TypeBinding → ℕ → Ty
put_by bs x = put_types bs (var x)

pub put_is : (bs : List TypeBinding) (t : Ty) → instance (put_by bs) t ≡ put_types bs t
put_is [] t = instance_same t
put_is (b ∷ bs) t =
    ap (λ f. instance f t) (fun_ext (λ x. sym (put_is bs (one_type b x)))) ∙ sym (instance-instance (one_type b) (put_by bs) t) ∙ put_is bs (put_type b t)

pub terms_put : (bs : List TypeBinding) (t : Term) → put_types_in bs t ≡ instance_term (put_by bs) t
terms_put [] t = sym (ap (λ p. p.left) (pair_same (record { left = t; right = t; level = 0 })))
terms_put (b ∷ bs) t = terms_put bs (instance_term (one_type b) t) ∙ term_twice (put_by bs) (one_type b) t ∙ ap (λ f. instance_term f t) (fun_ext (λ x. put_is bs (one_type b x)))

pub pairs_put : (bs : List TypeBinding) (ps : List Pair) → type_pairs_in bs ps ≡ at_types (put_by bs) ps
pairs_put [] ps = sym (map_same (instance_pair var) pair_same ps)
pairs_put (b ∷ bs) ps = pairs_put bs (map (type_pair b) ps) ∙ pairs_twice (put_by bs) (one_type b) ps ∙ ap (λ f. at_types f ps) (fun_ext (λ x. put_is bs (one_type b x)))

-- most general
hold_unify : (θ : ℕ → Ty) (ps : List TypePair) → AllHold θ (equations ps) → Unifies θ ps
hold_unify θ [] h = tt
hold_unify θ (p ∷ ps) h = (h.0, hold_unify θ ps h.1)

unify_hold : (θ : ℕ → Ty) (ps : List TypePair) → Unifies θ ps → AllHold θ (equations ps)
unify_hold θ [] h = tt
unify_hold θ (p ∷ ps) h = (h.0, unify_hold θ ps h.1)

pub record IsGeneral (eqs : List TypePair) (bs : List TypeBinding) : Type 0 where
  pub unifies : Unifies (put_by bs) eqs
  pub first : (θ : ℕ → Ty) → Unifies θ eqs → (x : ℕ) → instance θ (put_by bs x) ≡ θ x
  pub satisfied : (θ : ℕ → Ty) → Unifies θ eqs → Satisfies θ bs

pub general : (n : ℕ) (eqs : List TypePair) (bs : List TypeBinding) (u : ℕ) → solve_types n eqs [] 0 ≡ Some (solved bs u) → IsGeneral eqs bs
general n eqs bs u e =
    let r = reached n eqs [] 0 bs u var e in
    let m = solves r.steps (equations eqs) r.solution r.is in
    let q : r.solution ≡ put_by bs = fun_ext (λ x. r.puts x ∙ ap (λ z. put_types z (var x)) (sym r.bindings)) in
    let t = types_right n eqs [] 0 (solved bs u) e in
    record {
      unifies = transport (λ z. Unifies z eqs) q (hold_unify r.solution eqs m.solves);
      first = λ θ h x. ap (λ f. instance θ (f x)) (sym q) ∙ m.first θ (unify_hold θ eqs h) x;
      satisfied = λ θ h. transport (Satisfies θ) (sym t.is) (t.keeps θ h);
    }

-- equations in which types put already change nothing
abbrev pub AreFixed : (ℕ → Ty) → List TypePair → Type 0
AreFixed ρ [] = Unit {0}
AreFixed ρ (p ∷ ps) = (instance ρ p.left ≡ p.left) × ((instance ρ p.right ≡ p.right) × AreFixed ρ ps)

pub both_unify : (μ ρ : ℕ → Ty) (eqs : List TypePair) → AreFixed ρ eqs → Unifies μ eqs → Unifies (both_types μ ρ) eqs
both_unify μ ρ [] h k = tt
both_unify μ ρ (p ∷ ps) h k =
    (sym (instance-instance ρ μ p.left) ∙ ap (instance μ) h.0 ∙ k.0 ∙ sym (ap (instance μ) h.1.0) ∙ instance-instance ρ μ p.right, both_unify μ ρ ps h.1.1 k.1)

pub satisfied_twice : (κ θ : ℕ → Ty) (bs : List TypeBinding) → Satisfies θ bs → Satisfies (both_types κ θ) bs
satisfied_twice κ θ [] h = tt
satisfied_twice κ θ (b ∷ bs) h = (ap (instance κ) h.0 ∙ instance-instance θ κ b.value, satisfied_twice κ θ bs h.1)

-- pairs in which the older types change nothing: behind the new bindings all types change nothing
pub fixed_behind : (eqs : List TypePair) (bs : List TypeBinding) (ρ : ℕ → Ty) → IsGeneral eqs bs → AreFixed ρ eqs → (ps : List Pair) → at_types ρ ps ≡ ps → at_types (both_types (put_by bs) ρ) (type_pairs_in bs ps) ≡ type_pairs_in bs ps
fixed_behind eqs bs ρ g f ps e =
    let μ = put_by bs in
    let θ = both_types μ ρ in
    let q : both_types θ μ ≡ θ = fun_ext (g.first θ (both_unify μ ρ eqs f g.unifies)) in
    ap (at_types θ) (pairs_put bs ps) ∙ pairs_twice θ μ ps ∙ ap (λ z. at_types z ps) q ∙ sym (pairs_twice μ ρ ps) ∙ ap (at_types μ) e ∙ sym (pairs_put bs ps)
