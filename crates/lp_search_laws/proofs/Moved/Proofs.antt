-- A proof with failing searches as leaves stays one with further eigenconstants among those that are there.
use Rattle.std.proofs.Common.{◌≡◌, ℕ, zero, suc, ◌≤◌, List, [], ◌∷◌, ◌++◌, map, length, ◌∙◌, refl, sym, ap, subst as transport, ◌⊎◌, inl, inr, arith, Some}
use Rattle.lp_lemmas.specs.Each.{EachOf}
use Rattle.lp_calculus.specs.Types.{Ty}
use Rattle.lp_calculus.specs.Term.{Term}
use Rattle.lp_calculus.specs.Typing.{eigen_type}
use Rattle.lp_model.specs.Flat.{Clause}
use Rattle.lp_model.specs.Flatten.{ClauseFormula}
use Rattle.lp_model.specs.Proofs.{Declared, ProvableBy}
use Rattle.lp_model.specs.Renaming.{renamed, renamed_clause, HasLevel, IsRenaming}
use Rattle.lp_proof_laws.proofs.Uniform.Renamed.{renamed_same, wider, wider_new, wider_old}
use Rattle.lp_proof_laws.proofs.Uniform.Renamings.{HaveLevel, MovesLeaves, clauses_same, below_end, length_end, up_to_or_next, proof_moved}
use Rattle.lp_search_laws.specs.Branches.{IsProgramTyped}
use Rattle.lp_search_laws.specs.Failed.{Order, IsFailedSearch}
use Rattle.lp_search_laws.specs.Widened.{Additions, widened, wider as wider_by, moved_to, olds, HaveClosedTypes}
use Rattle.lp_search_laws.proofs.Moved.Places.{widened_length, widened_eigen, widened_level, widened_end}
use Rattle.lp_search_laws.proofs.Moved.Leaves.{failed_widened, widened_failure}

-- on the eigenconstants that are there the renaming is that of the additions
record IsWidening (E F : List Ty) (ρ : ℕ → ℕ) : Type 0 where
  additions : Additions
  closed : HaveClosedTypes additions
  within : olds additions ≤ length E
  is : F ≡ widened additions E
  same : (k : ℕ) → k ≤ length E → moved_to additions k ≡ ρ k

eigen_below : (E : List Ty) (k : ℕ) (T : Ty) → eigen_type E k ≡ Some T → k ≤ length E
eigen_below E zero T e = cc
eigen_below E (suc k) T e = let r = below_end E k T e in omega (arith, r)

is_renaming : (E F : List Ty) (ρ : ℕ → ℕ) → IsWidening E F ρ → IsRenaming E F ρ
is_renaming E F ρ w = record {
  typed = λ k T e. transport (λ j. eigen_type F j ≡ Some T) (w.same k (eigen_below E k T e)) (transport (λ X. eigen_type X (moved_to w.additions k) ≡ Some T) (sym w.is) (widened_eigen w.additions E k T e));
  level = λ k l. transport (λ j. j ≤ length F) (w.same k l) (transport (λ X. moved_to w.additions k ≤ length X) (sym w.is) (widened_level w.additions E k l));
}

widening_on : (E F : List Ty) (ρ : ℕ → ℕ) (T : Ty) → IsWidening E F ρ → IsWidening (E ++ T ∷ []) (F ++ T ∷ []) (wider ρ (length E) (length F))
widening_on E F ρ T w = record {
  additions = w.additions;
  closed = w.closed;
  within = let a = w.within in let b = length_end E T in omega (arith, a, b);
  is = ap (λ X. X ++ T ∷ []) w.is ∙ sym (widened_end w.additions E T w.within);
  same = λ k l. at k (up_to_or_next k (length E) (transport (λ n. k ≤ n) (length_end E T) l));
}
  where
    last : wider_by w.additions (length E) ≡ length F
    last = sym (widened_length w.additions E) ∙ ap length (sym w.is)

    at : (k : ℕ) → (k ≤ length E) ⊎ (k ≡ suc (length E)) → moved_to w.additions k ≡ wider ρ (length E) (length F) k
    at k (inl l) = w.same k l ∙ wider_old ρ (length E) (length F) k l
    at k (inr e) = ap (moved_to w.additions) e ∙ ap suc last ∙ sym (wider_new ρ (length E) (length F)) ∙ ap (wider ρ (length E) (length F)) (sym e)

failed_moves : (o : Order) (d : Declared) (P : List Clause) → EachOf (IsProgramTyped d) P → MovesLeaves (IsFailedSearch o d P) (IsFailedSearch o d P) IsWidening
failed_moves o d P p = record {
  renaming = is_renaming;
  goes_on = widening_on;
  leaf = λ E F ρ w R G f l m h.
      let x = failed_widened o d P p w.additions w.closed E w.within R G f h in
      let g = widened_failure w.additions f in
      let a = transport (λ Q. IsFailedSearch o d P (widened w.additions E) Q (renamed (moved_to w.additions) G) g) (clauses_same (moved_to w.additions) ρ (length E) w.same R l) x in
      let b = transport (λ t. IsFailedSearch o d P (widened w.additions E) (map (renamed_clause ρ) R) t g) (renamed_same (moved_to w.additions) ρ (length E) w.same G m) a in
      (g, transport (λ X. IsFailedSearch o d P X (map (renamed_clause ρ) R) (renamed ρ G) g) (sym w.is) b);
}

pub proof_widened : (o : Order) (d : Declared) (P : List Clause) → EachOf (IsProgramTyped d) P → (ads : Additions) → HaveClosedTypes ads →
    (E : List Ty) → olds ads ≤ length E → (R : List ClauseFormula) (G : Term) → HaveLevel (length E) R → HasLevel (length E) G → ProvableBy
    (IsFailedSearch o d P) d E R G →
    ProvableBy (IsFailedSearch o d P) d (widened ads E) (map (renamed_clause (moved_to ads)) R) (renamed (moved_to ads) G)
proof_widened o d P p ads c E l R G h g w = proof_moved (failed_moves o d P p) d E (widened ads E) (moved_to ads) (record { additions = ads; closed = c; within = l; is = refl; same = λ k q. refl }) R G h g w
