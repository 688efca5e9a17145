-- How what is judged of one variable is judged of all.
use Rattle.std.proofs.Common.{◌≡◌, ℕ, zero, suc, ◌<◌, List, [], ◌∷◌, take, get_or, length, refl, sym, subst, arith, Bool, true, false, Some, inl, inr}
use Rattle.std.specs.Prelude.{All, slice_get}
use Rattle.std.proofs.lemmas.List.Elements.{All-nil, All-cons, All-head, All-tail}
use Rattle.lp_calculus.specs.Types.{Ty}
use Rattle.lp_calculus.specs.Term.{Term}
use Rattle.lp_term.specs.Frame.{IsDeepBeta}
use Rattle.lp_term.specs.declared.reduce.TermRefusal.{TermRefusal}
use Rattle.lp_term.specs.Nodes.{Nodes, tree, Extends}
use Rattle.lp_term.specs.declared.node.TermId.{TermId}
use Rattle.lp_model.specs.Pair.{Closing, closed}
use Rattle.lp_model.specs.Search.{has_type_variable, has_variable}
use Rattle.lp_pattern.specs.Stripping.{IsShut}
use Rattle.lp_pattern.specs.Under.{IsReading}
use Rattle.lp_pattern.specs.declared.bindings.Bindings.{Bindings}
use Rattle.lp_pattern.proofs.Walking.{reading_kept}
use Rattle.lp_plain.specs.Standings.{openness_by, IsForm, IsJudged, IsTypeJudged, OfAll, OfBoth, OfFree, OfIndex}
use Rattle.lp_plain.specs.Renewal.{new_number}
use Rattle.lp_plain.specs.declared.free.Free.{Free}
use Rattle.lp_plain.specs.declared.instance.Values.{Values}
use Rattle.lp_plain.specs.declared.scope.Scopes.{Scopes}
use Rattle.lp_plain.specs.declared.openness.Openness.{Openness}
use Rattle.lp_plain.specs.declared.openness.Openness.TheVariants.{Closed, Deep}

pub type_judged : (found : Bool) (o : Openness) (T : Ty) → o ≡ openness_by found → found ≡ has_type_variable T → IsTypeJudged o T
type_judged true o T e q = subst (λ o. IsTypeJudged o T) (sym e) (sym q)
type_judged false o T e q = subst (λ o. IsTypeJudged o T) (sym e) (sym q)

pub term_judged : (found : Bool) (o : Openness) (t s : Term) → o ≡ openness_by found → IsForm t s → found ≡ has_variable s → IsJudged o t
term_judged true o t s e f q = subst (λ o. IsJudged o t) (sym e) (s, f, sym q)
term_judged false o t s e f q = subst (λ o. IsJudged o t) (sym e) (s, f, sym q)

pub deep_judged : (k : ℕ) (t : Term) → IsDeepBeta 1000000 1000000 t (TermRefusal.Deep k) → IsJudged Deep t
deep_judged k t (inl h) = inl (inl h.1)
deep_judged k t (inr h) = inl (inr h.1)

pub index_judged : (a b : Nodes) (s : Bindings) (c : Closing) (vs : List TermId) (x : ℕ) (v : TermId) (o : Openness) → Extends a b → IsReading a s c → IsShut c → Some v ≡ slice_get vs x →
    ((c : Closing) → IsReading b s c → IsShut c → IsJudged o (closed c (tree b v.0))) → OfIndex a c vs o x
index_judged a b s c vs x v o e r h q j = (v, sym q, λ l. subst (λ t. IsJudged o (closed c t)) (e.same_terms v.0 l) (j c (reading_kept a b s c e r) h))

-- of the next element too
pub all_next : {A : Type 0} (P : A → Type 0) (xs : List A) (i : ℕ) (x d : A) → i < length xs → x ≡ get_or xs i d → All P (take i xs) → P x → All P (take (suc i) xs)
all_next P [] i x d l e a p = absurd (omega (arith, l))
all_next P (y ∷ xs) zero x d l e a p = All-cons P y (take 0 xs) (subst P e p) (All-nil P)
all_next P (y ∷ xs) (suc i) x d l e a p = All-cons P y (take (suc i) xs) (All-head P y (take i xs) a) (all_next P xs i x d (omega (arith, l)) e (All-tail P y (take i xs) a) p)

pub all_more : {A : Type 0} (P : A → Type 0) (xs : List A) (i n : ℕ) (x d : A) → n ≡ suc i → i < length xs → x ≡ get_or xs i d → All P (take i xs) → P x → All P (take n xs)
all_more P xs i n x d q l e a p = subst (λ m. All P (take m xs)) (sym q) (all_next P xs i x d l e a p)

pub all_closed : {A : Type 0} (J : Openness → A → Type 0) (xs : List A) → All (J Closed) xs → OfAll J Closed xs
all_closed J [] a = refl
all_closed J (x ∷ xs) a = inr (All-head (J Closed) x xs a, all_closed J xs (All-tail (J Closed) x xs a))

-- what is judged of one element behind closed ones, where it is not closed, is judged of all
pub of_first : {A : Type 0} (J : Openness → A → Type 0) (xs : List A) (i : ℕ) (x d : A) (o : Openness) → (o ≡ Closed → ⊥) → i < length xs → x ≡ get_or xs i d → All (J Closed) (take i xs) → J o x → OfAll J o xs
of_first J [] i x d o n l e a j = absurd (omega (arith, l))
of_first J (y ∷ xs) zero x d o n l e a j = inl (n, subst (J o) e j)
of_first J (y ∷ xs) (suc i) x d o n l e a j = inr (All-head (J Closed) y (take i xs) a, of_first J xs i x d o n (omega (arith, l)) e (All-tail (J Closed) y (take i xs) a) j)

-- what is judged in a later bank is judged in an earlier one

index_earlier : (a b : Nodes) (c : Closing) (vs : List TermId) (o : Openness) (x : ℕ) → Extends a b → OfIndex b c vs o x → OfIndex a c vs o x
index_earlier a b c vs o x e h = (h.0, h.1, λ l. subst (λ t. IsJudged o (closed c t)) (e.same_terms h.0.0 l) (h.2 (let m = e.more_terms in omega (arith, l, m))))

all_earlier : {A : Type 0} (J K : Openness → A → Type 0) → ((o : Openness) (x : A) → J o x → K o x) → (o : Openness) (xs : List A) → OfAll J o xs → OfAll K o xs
all_earlier J K f o [] h = h
all_earlier J K f o (x ∷ xs) (inl h) = inl (h.0, f o x h.1)
all_earlier J K f o (x ∷ xs) (inr h) = inr (f Closed x h.0, all_earlier J K f o xs h.1)

both_earlier : (J J' K : Openness → Type 0) → ((o : Openness) → J o → J' o) → (o : Openness) → OfBoth J K o → OfBoth J' K o
both_earlier J J' K f o (inl h) = inl (h.0, f o h.1)
both_earlier J J' K f o (inr h) = inr (f Closed h.0, h.1)

pub free_earlier : (a b : Nodes) (c : Closing) (s : Scopes) (v : Values) (f : Free) (o : Openness) → Extends a b → OfFree b c s v f o → OfFree a c s v f o
free_earlier a b c s v f o e h = λ nb nv vs i.
    both_earlier (λ o. OfAll (OfIndex b c vs) o f.variables.items) (λ o. OfAll (OfIndex a c vs) o f.variables.items) (λ o. OfAll (λ o x. IsTypeJudged o (c.types (new_number v.types x))) o f.types.items)
    (λ p. all_earlier (OfIndex b c vs) (OfIndex a c vs) (λ q x. index_earlier a b c vs q x e) p f.variables.items) o (h nb nv vs i)
