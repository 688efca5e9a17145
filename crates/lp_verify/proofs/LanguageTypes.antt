-- The types of the language's constants, put into a bank one behind the other.
use Rattle.std.proofs.Common.{◌≡◌, ◌∙◌, ◌<◌, ℕ, zero, suc, List, [], ◌∷◌, ◌++◌, length, Option, Some, None, ap, refl, sym, subst, arith, inl, inr}
use Rattle.std.specs.Prelude.{slice_get, option_map}
use Rattle.lp_lemmas.proofs.Numbers.{below_suc}
use Rattle.lp_lemmas.proofs.Lists.{length_push_suc}
use Rattle.lp_calculus.specs.Typing.{Scheme}
use Rattle.lp_standard.specs.declared.shape.Shape.{Shape}
use Rattle.lp_standard.specs.Schemes.{standard_schemes, entry, shape_variables, shape_type, shape_scheme}
use Rattle.lp_term.specs.declared.node.TypeId.{TypeId}
use Rattle.lp_term.specs.Nodes.{Nodes, Extends}
use Rattle.lp_code.specs.Naming.{scheme_in}
use Rattle.lp_verify.specs.declared.tables.Scheme as kept
use Rattle.lp_verify.specs.inner.Language.{IsPutIn, IsSchemeIn, IsSchemePut, AreSchemes}

scheme_later : (b d : Nodes) (s : Option kept.Scheme) (S : Option Scheme) → Extends b d → IsSchemeIn b s S → IsSchemeIn d s S
scheme_later b d None None e h = tt
scheme_later b d None (Some S) e h = absurd h
scheme_later b d (Some s) None e h = absurd h
scheme_later b d (Some s) (Some S) e h =
    let low = h.0 in
    let more = e.more_types in
    (omega (arith, low, more), ap (λ T. record { count = s.type_vars; body = T }) (e.same_types s.body.0 low) ∙ h.1)

pub shape_put : (b d : Nodes) (o : Option Shape) (s : Shape) (n : ℕ) (t : TypeId) → o ≡ Some s → n ≡ shape_variables s → IsPutIn b d (shape_type s) t → IsSchemePut b d (option_map shape_scheme o) (Some (record { type_vars = n; body = t }))
shape_put b d o s n t e m h = subst (λ o. IsSchemePut b d (option_map shape_scheme o) (Some (record { type_vars = n; body = t }))) (sym e) (h.0, (h.1, λ j. record { count = m j; body = h.2 j }))

get_front : {A : Type 0} (xs : List A) (y : A) (i : ℕ) (x : A) → slice_get xs i ≡ Some x → slice_get (xs ++ y ∷ []) i ≡ Some x
get_front [] y i x h = absurd (cc)
get_front (z ∷ xs) y zero x h = h
get_front (z ∷ xs) y (suc i) x h = get_front xs y i x h

get_last : {A : Type 0} (xs : List A) (y : A) (i : ℕ) → i ≡ length xs → slice_get (xs ++ y ∷ []) i ≡ Some y
get_last [] y i h = ap (slice_get (y ∷ [])) h
get_last (z ∷ xs) y zero h = absurd (omega (arith, h))
get_last (z ∷ xs) y (suc i) h = get_last xs y i (omega (arith, h))

pub no_schemes : (b : Nodes) (ss : List (Option kept.Scheme)) → ss ≡ [] → AreSchemes b ss 0
no_schemes b ss e = (ap length e, λ c l. absurd (omega (arith, l)))

pub one_scheme : (b d : Nodes) (ss now : List (Option kept.Scheme)) (n m : ℕ) (s : Option kept.Scheme) → AreSchemes b ss n → Extends b d → IsSchemeIn d s (entry standard_schemes n) → now ≡ ss ++ s ∷ [] → m ≡ suc n → AreSchemes d now m
one_scheme b d ss now n m z a e here put more =
    subst (AreSchemes d now) (sym more)
    (subst (λ l. AreSchemes d l (suc n)) (sym put) (
      length_push_suc ss z ∙ ap (λ n. suc n) a.0,
      λ c l. elim (below_suc n c l) [
        | inl k ↦ let o = a.1 c k in (o.0, get_front ss z c o.0 o.1, scheme_later b d o.0 (entry standard_schemes c) e o.2)
        | inr k ↦ subst (λ c. (s : Option kept.Scheme) × (slice_get (ss ++ z ∷ []) c ≡ Some s) × IsSchemeIn d s (entry standard_schemes c)) (sym k) (z, get_last ss z n (sym a.0), here)
      ],
    ))

-- what is found of a number
scheme_told : (b : Nodes) (s : Option kept.Scheme) (S : Option Scheme) → IsSchemeIn b s S → option_map (λ (s : kept.Scheme). scheme_in b s.type_vars s.body.0) s ≡ S
scheme_told b None None h = refl
scheme_told b None (Some S) h = absurd h
scheme_told b (Some s) None h = absurd h
scheme_told b (Some s) (Some S) h = ap (λ S. Some S) h.1

some_same : {A : Type 0} (x y : A) → Some x ≡ Some y → x ≡ y
some_same x y e = cc

pub language_told : (b : Nodes) (ss : List (Option kept.Scheme)) (n c : ℕ) (s : Option kept.Scheme) → AreSchemes b ss n → c < n → slice_get ss c ≡ Some s → option_map (λ (s : kept.Scheme). scheme_in b s.type_vars s.body.0) s ≡ entry standard_schemes c
language_told b ss n c s a l h = let o = a.1 c l in ap (option_map (λ (s : kept.Scheme). scheme_in b s.type_vars s.body.0)) (some_same s o.0 (sym h ∙ o.1)) ∙ scheme_told b o.0 (entry standard_schemes c) o.2
