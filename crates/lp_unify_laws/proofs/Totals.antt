-- What typing excludes: a variable below a rigid head in what it is to be; and what it gives: a term that is the same on two lists of
-- eigenconstants comes to one with the agreeing ones alone. Both go by the sizes of long forms.
use Rattle.std.proofs.Common.{◌≡◌, ℕ, ◌≤◌, List, [], length, true, refl, sym, ap, ◌∙◌, subst as transport, arith, Option, Some}
use Rattle.lp_calculus.specs.Types.{Ty}
use Rattle.lp_calculus.specs.Term.{Term, apply, logic, Atom}
use Rattle.lp_calculus.specs.Convert.{Converts, ReducesTo}
use Rattle.lp_calculus.specs.Fill.{Within}
use Rattle.lp_calculus.specs.Typing.{HasType}
use Rattle.lp_model.specs.Patterns.{eigens, agreeing}
use Rattle.lp_model.specs.Look.{are_distinct, are_above}
use Rattle.lp_model.specs.Scan.{Side, pattern, pattern_term}
use Rattle.lp_model.specs.Proofs.{Declared}
use Rattle.lp_model.specs.Answers.{Variable}
use Rattle.lp_unify_laws.specs.Levels.{IsPairAtom, IsClosing}
use Rattle.lp_calculus.proofs.Fills.{within_more}
use Rattle.lp_calculus.proofs.Rigid.{IsRigid}
use Rattle.lp_unify_laws.proofs.News.{Among}
use Rattle.lp_unify_laws.proofs.Scans.{Seen}
use Rattle.lp_unify_laws.proofs.Prunings.{pair_seen}
use Rattle.lp_unify_laws.proofs.Breaks.{Occurs}
use Rattle.lp_unify_laws.proofs.Solving.{Meets}
use Rattle.lp_unify_laws.proofs.Scopes.{in_scope, or_o, or_o_is, typed_grows, scope_grows, none_more, of_variable, pattern_typed}
use Rattle.lp_unify_laws.proofs.NewVariables.{IsTypedClosing, witness_typed}
use Rattle.lp_unify_laws.proofs.TypedBindings.{IsTypedTerm}
use Rattle.lp_unify_laws.proofs.Placed.{IsTypedSide}
use Rattle.lp_unify_laws.proofs.Typed.{HasTotal, typed_long}
use Rattle.lp_unify_laws.proofs.Occurrence.{typed_no_occurrence}
use Rattle.lp_unify_laws.proofs.Agreeing.{typed_agrees}

-- types for all atoms, `o` where there is none
abbrev pub total : (Atom → Option Ty) → Atom → Ty
total τ a = or_o (τ a)

pub typed_total : (τ : Atom → Option Ty) (C : List Ty) (t : Term) (T : Ty) → HasType τ C t T → HasTotal (total τ) C t T
typed_total τ C t T w = typed_grows τ (λ a. Some (total τ a)) (λ a A e. ap (λ z. Some z) (sym (or_o_is (τ a) A e))) C t T w

-- what the side's variable is given
side_value : (d : Declared) (E : List Ty) (V W : List Variable) (s : Side) (T : Ty) → (h : IsTypedSide d E V s T) → (σ : ℕ → ℕ → Term) → IsTypedClosing d V σ → HasType (in_scope d E W) [] (σ s.id s.level) h.variable.type
side_value d E V W s T h σ g = transport (λ z. HasType (in_scope d E W) [] (σ s.id z) h.variable.type) (sym h.level)
    (typed_grows (in_scope d h.variable.scope []) (in_scope d E W) (scope_grows d h.variable.scope E [] W h.scope (none_more W)) [] (σ s.id (length h.variable.scope)) h.variable.type (witness_typed d h.variable.scope (σ s.id (length h.variable.scope)) h.variable.type (g s.id h.variable h.is)))

pub no_occurrence : (d : Declared) (E : List Ty) (V : List Variable) (next : ℕ) (s : Side) (t : Term) (T : Ty) → s.level ≤ s.pair → are_above s.level s.arguments ≡ true → Within (IsPairAtom next s.pair) 0 t → IsTypedSide d E V s T → IsTypedTerm d E V t T →
    (h : Term) (hs : List Term) → Converts t (apply h hs) → IsRigid h → Occurs s s.pair t → (σ : ℕ → ℕ → Term) → IsClosing σ → IsTypedClosing d V σ → Meets σ s t → ⊥
no_occurrence d E V next s t T low above w side ty h hs e r o σ c g m =
    let τ = in_scope d E V in
    let v = side.variable in
    let k : τ (logic s.id s.level) ≡ Some v.type = transport (λ z. τ (logic s.id z) ≡ Some v.type) (sym side.level) (of_variable V s.id v side.is) in
    let own : HasType τ [] (pattern_term (pattern s.id s.level s.arguments)) T = pattern_typed d E V s.arguments _ T (k ∙ ap (λ z. Some z) side.type) side.arguments in
    let value : HasTotal (total τ) [] (σ s.id s.level) (total τ (logic s.id s.level)) = transport (HasTotal (total τ) [] (σ s.id s.level)) (or_o_is (τ (logic s.id s.level)) v.type k) (typed_total τ [] (σ s.id s.level) v.type (side_value d E V V s T side σ g)) in
    typed_no_occurrence s σ c next (total τ) (λ j B. refl) low above t T (within_more (IsPairAtom next s.pair) (Seen next s.pair s.pair) 0 0 (pair_seen next s.pair) (omega arith) t w)
    (typed_total τ [] t T ty.typed) (typed_total τ [] (pattern_term (pattern s.id s.level s.arguments)) T own) value h hs e r o m

pub side_agrees : (d : Declared) (E : List Ty) (V : List Variable) (s : Side) (T : Ty) → (h : IsTypedSide d E V s T) → (b : List ℕ) (σ : ℕ → ℕ → Term) → IsClosing σ → IsTypedClosing d V σ → length s.arguments ≡ length b → are_distinct s.arguments ≡ true → are_above s.level s.arguments ≡ true →
    Converts (apply (σ s.id s.level) (eigens s.arguments)) (apply (σ s.id s.level) (eigens b)) → (w : Term) × ReducesTo (apply (σ s.id s.level) (eigens s.arguments)) w × Within (Among s.level (agreeing s.arguments b)) 0 w
side_agrees d E V s T h b σ c g e i u m =
    let τ = in_scope d E [] in
    let ty : HasType τ [] (apply (σ s.id s.level) (eigens s.arguments)) T = pattern_typed d E [] s.arguments (σ s.id s.level) T (transport (HasType τ [] (σ s.id s.level)) h.type (side_value d E V [] s T h σ g)) h.arguments in
    typed_agrees (total τ) T (σ s.id s.level) s.level s.arguments b (c.closed s.id s.level) (typed_long (total τ) (λ j B. refl) (apply (σ s.id s.level) (eigens s.arguments)) T (typed_total τ [] (apply (σ s.id s.level) (eigens s.arguments)) T ty)) e i u m
