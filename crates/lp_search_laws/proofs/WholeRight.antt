-- What the search of a query tells is right: closed instances of answers are instances of the query, and without negation the proofs without failing searches
-- are all.
use Rattle.std.proofs.Common.{◌≡◌, ℕ, zero, suc, ◌-◌, ◌<◌, List, [], ◌∷◌, map, length, Some, refl, sym, ap, ◌∙◌, subst as transport, arith}
use Rattle.std.proofs.lemmas.List.{length-map}
use mathlib.Core.Path.{fun_ext}
use Rattle.lp_calculus.specs.Types.{Ty, instance}
use Rattle.lp_calculus.specs.Term.{Term, index, atom, abs, app}
use Rattle.lp_calculus.specs.Convert.{same}
use Rattle.lp_calculus.specs.Fill.{Within}
use Rattle.lp_calculus.specs.Typing.{type_at}
use Rattle.lp_calculus.specs.Instance.{instance_term}
use Rattle.lp_calculus.specs.Closed.{AreClosed, AllAtoms}
use Rattle.lp_calculus.proofs.Fills.{within_subst}
use Rattle.lp_model.specs.Unify.{unit_limit}
use Rattle.lp_lemmas.specs.Each.{EachOf}
use Rattle.lp_model.specs.Flat.{Goals, Clause}
use Rattle.lp_model.specs.Flatten.{ClauseFormula, flatten_query}
use Rattle.lp_model.specs.Index.{at}
use Rattle.lp_model.specs.Pair.{Closing, closed}
use Rattle.lp_model.specs.Skeleton.{Told, run}
use Rattle.lp_model.specs.Branch.{Answer}
use Rattle.lp_model.specs.Search.{look, start}
use Rattle.lp_model.specs.Proofs.{Declared, AreFlattened}
use Rattle.lp_model.specs.Answers.{Query, Variable, AnswerTyping, Instance, Closes, AreTypedValues, AreWitnesses, ConvertEach, IsWellFormed, IsInstance, IsClosedInstance, IsProvable, IsRight, TypedAnswer, filled}
use Rattle.lp_standard.specs.Schemes.{IsStandard}
use Rattle.lp_proof_laws.specs.Unnegated.{IsUnnegatedAtom, IsUnnegated}
use Rattle.lp_proof_laws.proofs.Uniform.Unnegated.{instance_unnegated, positive_unnegated, unnegated_plain}
use Rattle.lp_proof_laws.proofs.Uniform.Uniforms.{plain_proof}
use Rattle.lp_proof_laws.proofs.Uniform.Openings.{instantiate_subst}
use Rattle.lp_search_laws.specs.Started.{IsQueryAtom, IsPlainQuery, IsPlainSentence, IsPlainlyProvable}
use Rattle.lp_search_laws.specs.Branches.{IsQueryInstance}
use Rattle.lp_search_laws.specs.Right.{IsRightFor}
use Rattle.lp_search_laws.proofs.ClosedTerms.{all_closed, closed_witness}
use Rattle.lp_search_laws.proofs.ResumedTypes.{value_scoped}
use Rattle.lp_search_laws.proofs.Queries.{witness_count}
use Rattle.lp_search_laws.proofs.LooksRight.{plain_search_is_right}
use Rattle.lp_calculus.proofs.TypeLaws.{instance-instance}
use Rattle.lp_unify_laws.proofs.Identities.{map_twice}

-- the types of an instance
at_map : (κ : ℕ → Ty) (Ts : List Ty) (i : ℕ) → instance κ (type_at Ts i) ≡ type_at (map (instance κ) Ts) i
at_map κ [] i = refl
at_map κ (T ∷ Ts) zero = refl
at_map κ (T ∷ Ts) (suc i) = at_map κ Ts i

types_twice : (κ : ℕ → Ty) (Ts Us : List Ty) → map (instance κ) (map (instance (type_at Ts)) Us) ≡ map (instance (type_at (map (instance κ) Ts))) Us
types_twice κ Ts Us = map_twice (instance (type_at Ts)) (instance κ) (instance (type_at (map (instance κ) Ts))) (λ U. instance-instance (type_at Ts) κ U ∙ ap (λ f. instance f U) (fun_ext (λ i. at_map κ Ts i))) Us

-- closed values are witnesses
witnesses : (d : Declared) (V : List Variable) (c : Closing) → Closes d V c → (ts : List Term) (Ts : List Ty) → AreTypedValues d V ts Ts → AreWitnesses d (map (closed c) ts) (map (instance c.types) Ts)
witnesses d V c h [] [] w = tt
witnesses d V c h [] (T ∷ Ts) w = absurd w
witnesses d V c h (t ∷ ts) [] w = absurd w
witnesses d V c h (t ∷ ts) (T ∷ Ts) w = (closed_witness d [] V c h t T (record { typed = w.0.typed; scoped = value_scoped d V t T w.0.typed w.0.outermost }) w.0.positive, witnesses d V c h ts Ts w.1)

each_same : (ts : List Term) → ConvertEach ts ts
each_same [] = tt
each_same (t ∷ ts) = (same t, each_same ts)

-- a closed instance of an answer is one of the query, and one up to conversion
pub query_instance : (d : Declared) (q : Query) (y : AnswerTyping) (a : Answer) (i : Instance) → IsWellFormed d q y a → IsClosedInstance d y a i → IsQueryInstance d q i
query_instance d q y a i w x =
    let c = x.closing in
    let ts = map (instance (type_at a.types)) q.vars in
    record {
      types = ap length (sym x.types) ∙ length-map a.types (instance c.types) ∙ w.types;
      types_closed = transport AreClosed x.types (all_closed c.types x.closes.types a.types);
      values = transport (AreWitnesses d i.values) (types_twice c.types a.types q.vars ∙ ap (λ Ts. map (instance (type_at Ts)) q.vars) x.types) (transport (λ vs. AreWitnesses d vs (map (instance c.types) ts)) x.values (witnesses d y.variables c x.closes a.values ts w.values));
    }

pub an_instance : (d : Declared) (y : AnswerTyping) (a : Answer) (i : Instance) → IsClosedInstance d y a i → IsInstance d y a i
an_instance d y a i x = record { closing = x.closing; closes = x.closes; solves = x.solves; types = x.types; values = transport (ConvertEach (map (closed x.closing) a.values)) x.values (each_same (map (closed x.closing) a.values)) }

-- proofs with and without failing searches
proved : (d : Declared) (F : List ClauseFormula) (q : Query) (i : Instance) → IsPlainlyProvable d F q i → IsProvable d F q i
proved d F q i p = record { types = p.types; types_closed = p.types_closed; values = p.values; proved = plain_proof d (length F) [] F (filled q i) p.proved }

-- a formula within its indices
unnegated_atom : (k : ℕ) (n : ℕ) (t : Term) → Within (IsQueryAtom k) n t → AllAtoms IsUnnegatedAtom t → Within IsUnnegatedAtom n t
unnegated_atom k n (index i) w h = w
unnegated_atom k n (atom a) w h = h
unnegated_atom k n (abs b) w h = unnegated_atom k (suc n) b w h
unnegated_atom k n (app t u) w h = (unnegated_atom k n t w.0 h.0, unnegated_atom k n u w.1 h.1)

sentences : (d : Declared) (F : List ClauseFormula) → EachOf (IsPlainSentence d) F → EachOf (λ D. IsUnnegated D.formula) F
sentences d [] s = tt
sentences d (D ∷ F) s = (unnegated_atom D.type_vars 0 D.formula s.0.typed.within s.0.unnegated, sentences d F s.1)

value_at : (d : Declared) (ts : List Term) (Ts : List Ty) → AreWitnesses d ts Ts → (j : ℕ) → j < length ts → IsUnnegated (at ts j)
value_at d [] [] w j l = absurd (omega (l, arith))
value_at d [] (T ∷ Ts) w j l = absurd w
value_at d (t ∷ ts) [] w j l = absurd w
value_at d (t ∷ ts) (T ∷ Ts) w zero l = positive_unnegated 0 0 t w.0.closed w.0.positive
value_at d (t ∷ ts) (T ∷ Ts) w (suc j) l = value_at d ts Ts w.1 j (omega (l, arith))

filled_unnegated : (d : Declared) (q : Query) (i : Instance) → IsPlainQuery d q → AreWitnesses d i.values (map (instance (type_at i.types)) q.vars) → IsUnnegated (filled q i)
filled_unnegated d q i t w =
    let n = witness_count d i.values (map (instance (type_at i.types)) q.vars) w ∙ length-map q.vars (instance (type_at i.types)) in
    let x = instance_term (type_at i.types) q.formula in
    let σ = (λ (k : ℕ). at i.values (length i.values - suc k)) in
    let base = instance_unnegated (type_at i.types) (length q.vars) q.formula (unnegated_atom q.type_vars (length q.vars) q.formula t.typed.within t.unnegated) in
    transport IsUnnegated (sym (instantiate_subst σ x)) (within_subst IsUnnegatedAtom σ (length q.vars) 0 (λ k l. value_at d i.values (map (instance (type_at i.types)) q.vars) w (length i.values - suc k) (omega (l, n, arith))) x base)

plainly : (d : Declared) (F : List ClauseFormula) (q : Query) → EachOf (IsPlainSentence d) F → IsPlainQuery d q → (i : Instance) → IsProvable d F q i → IsPlainlyProvable d F q i
plainly d F q s t i p = record { types = p.types; types_closed = p.types_closed; values = p.values; proved = unnegated_plain d (length F) [] F (filled q i) (sentences d F s) (filled_unnegated d q i t p.values) p.proved }

each_sound : (d : Declared) (F : List ClauseFormula) (q : Query) (xs : List TypedAnswer) → EachOf (λ a. IsWellFormed d q a.typing a.answer) xs →
    EachOf (λ a. (i : Instance) → IsQueryInstance d q i → IsInstance d a.typing a.answer i → IsPlainlyProvable d F q i) xs → EachOf
    (λ a. (i : Instance) → IsClosedInstance d a.typing a.answer i → IsProvable d F q i) xs
each_sound d F q [] w h = tt
each_sound d F q (x ∷ xs) w h = (λ i c. proved d F q i (h.0 i (query_instance d q x.typing x.answer i w.0 c) (an_instance d x.typing x.answer i c)), each_sound d F q xs w.1 h.1)

right : (d : Declared) (F : List ClauseFormula) (q : Query) → EachOf (IsPlainSentence d) F → IsPlainQuery d q → (t : Told Answer) → IsRightFor d F q t → IsRight d F q t
right d F q s t z r = record { typed = r.typed; is = r.is; well_formed = r.well_formed; sound = each_sound d F q r.typed r.well_formed r.sound; exhausts = λ e i p. r.exhausts e i (plainly d F q s t i p) }

pub search_is_right : (d : Declared) → IsStandard d → (l : ℕ) (F : List ClauseFormula) (P : List Clause) → EachOf (IsPlainSentence d) F → AreFlattened d F P → (q : Query) (gs : Goals) → IsPlainQuery d q → flatten_query l d q.formula ≡ Some gs →
    (n j m steps answers : ℕ) → IsRight d F q (run (look unit_limit n P) j m (start q.type_vars (length q.vars) gs steps answers))
search_is_right d std l F P s x q gs t e n j m steps answers = right d F q s t _ (plain_search_is_right d std l F P s x q gs t e n j m steps answers)
