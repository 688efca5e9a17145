-- Types in which `o` is put for each type whose kind is not known: they are types of a text as well, and what is the first typing of a text holds no such kind.
use Rattle.std.proofs.Common.{◌≡◌, ℕ, zero, suc, List, [], ◌∷◌, map, Option, Some, None, Bool, true, false, refl, sym, ap, ◌∙◌, subst}
use Rattle.std.specs.Prelude.{if◌then◌else◌, option_map}
use Rattle.std.proofs.lemmas.List.{length-map}
use Rattle.lp_lemmas.specs.Each.{EachOf}
use Rattle.lp_lemmas.proofs.Lists.{get_map}
use Rattle.lp_calculus.specs.Types.{Ty, Tys, var, param as type_param, con, arrow, no_types, types, instance, instances}
use Rattle.lp_calculus.specs.Term.{Term, index, atom, abs, app, constant, integer, text, eigen, logic, param}
use Rattle.lp_calculus.specs.Typing.{Scheme, o_type, int_type, string_type, type_at}
use Rattle.lp_standard.specs.Schemes.{standard_schemes, entry}
use Rattle.lp_infer.specs.Typing.{Raw, raw_index, raw_constant, raw_integer, raw_text, raw_abs, raw_app, Elaborates, IsGiven, Typing, put_typing, instance_term}

abbrev pub count : Tys → ℕ
count no_types = 0
count (types t ts) = suc (count ts)

-- a test of kinds on so many types, and whether type parameters may stand; the kinds of the language pass
pub record Test : Type 0 where
  pub known : ℕ → ℕ → Bool
  pub params : Bool
  pub of_o : known 0 0 ≡ true
  pub of_int : known 1 0 ≡ true
  pub of_string : known 2 0 ≡ true
  pub of_list : known 3 1 ≡ true

-- each kind of a type passes
abbrev mutual
  pub Fits : Test → Ty → Type 0
  Fits k (var i) = Unit {0}
  Fits k (type_param j) = k.params ≡ true
  Fits k (con c ts) = (k.known c (count ts) ≡ true) × AllFit k ts
  Fits k (arrow a b) = Fits k a × Fits k b

  pub AllFit : Test → Tys → Type 0
  AllFit k no_types = Unit {0}
  AllFit k (types t ts) = Fits k t × AllFit k ts

-- so in the types of a term
abbrev pub TermFits : Test → Term → Type 0
TermFits k (index i) = Unit {0}
TermFits k (atom (constant c ts)) = EachOf (Fits k) ts
TermFits k (atom (integer z)) = Unit {0}
TermFits k (atom (text s)) = Unit {0}
TermFits k (atom (eigen j)) = Unit {0}
TermFits k (atom (logic x l)) = Unit {0}
TermFits k (atom (param j T)) = Fits k T
TermFits k (abs b) = TermFits k b
TermFits k (app t u) = TermFits k t × TermFits k u

-- the constants of a text have such types
abbrev pub RawFits : Test → Raw → Type 0
RawFits k (raw_index i) = Unit {0}
RawFits k (raw_constant c s) = Fits k s.body
RawFits k (raw_integer z) = Unit {0}
RawFits k (raw_text s) = Unit {0}
RawFits k (raw_abs given b) = RawFits k b
RawFits k (raw_app f u) = RawFits k f × RawFits k u

-- `o` is put for the others
abbrev mutual
  pub sealed : Test → Ty → Ty
  sealed k (var i) = var i
  sealed k (type_param j) = if k.params then type_param j else o_type
  sealed k (con c ts) = if k.known c (count ts) then con c (all_sealed k ts) else o_type
  sealed k (arrow a b) = arrow (sealed k a) (sealed k b)

  pub all_sealed : Test → Tys → Tys
  all_sealed k no_types = no_types
  all_sealed k (types t ts) = types (sealed k t) (all_sealed k ts)

abbrev pub sealed_term : Test → Term → Term
sealed_term k (index i) = index i
sealed_term k (atom (constant c ts)) = atom (constant c (map (sealed k) ts))
sealed_term k (atom (integer z)) = atom (integer z)
sealed_term k (atom (text s)) = atom (text s)
sealed_term k (atom (eigen j)) = atom (eigen j)
sealed_term k (atom (logic x l)) = atom (logic x l)
sealed_term k (atom (param j T)) = atom (param j (sealed k T))
sealed_term k (abs b) = abs (sealed_term k b)
sealed_term k (app t u) = app (sealed_term k t) (sealed_term k u)

abbrev pub sealed_raw : Test → Raw → Raw
sealed_raw k (raw_index i) = raw_index i
sealed_raw k (raw_constant c s) = raw_constant c s
sealed_raw k (raw_integer z) = raw_integer z
sealed_raw k (raw_text s) = raw_text s
sealed_raw k (raw_abs given b) = raw_abs (option_map (sealed k) given) (sealed_raw k b)
sealed_raw k (raw_app f u) = raw_app (sealed_raw k f) (sealed_raw k u)

abbrev pub sealed_typing : Test → Typing → Typing
sealed_typing k T = record { free = map (sealed k) T.free; formula = sealed_term k T.formula }

count_instances : (θ : ℕ → Ty) (ts : Tys) → count (instances θ ts) ≡ count ts
count_instances θ no_types = refl
count_instances θ (types t ts) = ap (λ n. suc n) (count_instances θ ts)

module _ (k : Test) where
  count_sealed : (ts : Tys) → count (all_sealed k ts) ≡ count ts
  count_sealed no_types = refl
  count_sealed (types t ts) = ap (λ n. suc n) (count_sealed ts)

  -- what is sealed fits
  choice_fits : (c : ℕ) (ts : Tys) (b : Bool) → k.known c (count ts) ≡ b → AllFit k (all_sealed k ts) → Fits k (if b then con c (all_sealed k ts) else o_type)
  choice_fits c ts true e h = (ap (k.known c) (count_sealed ts) ∙ e, h)
  choice_fits c ts false e h = (k.of_o, tt)

  param_fits : (j : ℕ) (b : Bool) → k.params ≡ b → Fits k (if b then type_param j else o_type)
  param_fits j true e = e
  param_fits j false e = (k.of_o, tt)

  mutual
    pub sealed_fits : (T : Ty) → Fits k (sealed k T)
    sealed_fits (var i) = tt
    sealed_fits (type_param j) = param_fits j k.params refl
    sealed_fits (con c ts) = choice_fits c ts (k.known c (count ts)) refl (all_sealed_fit ts)
    sealed_fits (arrow a b) = (sealed_fits a, sealed_fits b)

    all_sealed_fit : (ts : Tys) → AllFit k (all_sealed k ts)
    all_sealed_fit no_types = tt
    all_sealed_fit (types t ts) = (sealed_fits t, all_sealed_fit ts)

  each_sealed_fits : (ts : List Ty) → EachOf (Fits k) (map (sealed k) ts)
  each_sealed_fits [] = tt
  each_sealed_fits (t ∷ ts) = (sealed_fits t, each_sealed_fits ts)

  sealed_term_fits : (t : Term) → TermFits k (sealed_term k t)
  sealed_term_fits (index i) = tt
  sealed_term_fits (atom (constant c ts)) = each_sealed_fits ts
  sealed_term_fits (atom (integer z)) = tt
  sealed_term_fits (atom (text s)) = tt
  sealed_term_fits (atom (eigen j)) = tt
  sealed_term_fits (atom (logic x l)) = tt
  sealed_term_fits (atom (param j T)) = sealed_fits T
  sealed_term_fits (abs b) = sealed_term_fits b
  sealed_term_fits (app t u) = (sealed_term_fits t, sealed_term_fits u)

  -- what an instance of a type holds not, the type holds not
  mutual
    unput : (θ : ℕ → Ty) (T : Ty) → Fits k (instance θ T) → Fits k T
    unput θ (var i) h = tt
    unput θ (type_param j) h = h
    unput θ (con c ts) (e, h) = (ap (k.known c) (sym (count_instances θ ts)) ∙ e, all_unput θ ts h)
    unput θ (arrow a b) (g, h) = (unput θ a g, unput θ b h)

    all_unput : (θ : ℕ → Ty) (ts : Tys) → AllFit k (instances θ ts) → AllFit k ts
    all_unput θ no_types h = tt
    all_unput θ (types t ts) (g, h) = (unput θ t g, all_unput θ ts h)

  each_unput : (θ : ℕ → Ty) (ts : List Ty) → EachOf (Fits k) (map (instance θ) ts) → EachOf (Fits k) ts
  each_unput θ [] h = tt
  each_unput θ (t ∷ ts) (g, h) = (unput θ t g, each_unput θ ts h)

  term_unput : (θ : ℕ → Ty) (t : Term) → TermFits k (instance_term θ t) → TermFits k t
  term_unput θ (index i) h = tt
  term_unput θ (atom (constant c ts)) h = each_unput θ ts h
  term_unput θ (atom (integer z)) h = tt
  term_unput θ (atom (text s)) h = tt
  term_unput θ (atom (eigen j)) h = tt
  term_unput θ (atom (logic x l)) h = tt
  term_unput θ (atom (param j T)) h = unput θ T h
  term_unput θ (abs b) h = term_unput θ b h
  term_unput θ (app t u) (g, h) = (term_unput θ t g, term_unput θ u h)

  -- so a typing of which a sealed one is an instance fits
  pub typing_fits : (θ : ℕ → Ty) (T : Typing) → put_typing θ T ≡ sealed_typing k T → EachOf (Fits k) T.free × TermFits k T.formula
  typing_fits θ T e = (
    each_unput θ T.free (subst (EachOf (Fits k)) (sym (ap (λ T. T.free) e)) (each_sealed_fits T.free)),
    term_unput θ T.formula (subst (TermFits k) (sym (ap (λ T. T.formula) e)) (sealed_term_fits T.formula)),
  )

  -- types for the variables of a type that fits are sealed by themselves
  mutual
    pub sealed_instance : (θ : ℕ → Ty) (T : Ty) → Fits k T → sealed k (instance θ T) ≡ instance (λ i. sealed k (θ i)) T
    sealed_instance θ (var i) h = refl
    sealed_instance θ (type_param j) h = ap (λ b. if b then type_param j else o_type) h
    sealed_instance θ (con c ts) (e, h) =
        ap (λ b. if b then con c (all_sealed k (instances θ ts)) else o_type) (ap (k.known c) (count_instances θ ts) ∙ e) ∙ ap (con c) (sealed_instances θ ts h)
    sealed_instance θ (arrow a b) (g, h) = let e = sealed_instance θ a g in let f = sealed_instance θ b h in cc

    sealed_instances : (θ : ℕ → Ty) (ts : Tys) → AllFit k ts → all_sealed k (instances θ ts) ≡ instances (λ i. sealed k (θ i)) ts
    sealed_instances θ no_types h = refl
    sealed_instances θ (types t ts) (g, h) = let e = sealed_instance θ t g in let f = sealed_instances θ ts h in cc

  sealed_o : sealed k o_type ≡ o_type
  sealed_o = ap (λ b. if b then o_type else o_type) k.of_o

  sealed_int : sealed k int_type ≡ int_type
  sealed_int = ap (λ b. if b then int_type else o_type) k.of_int

  sealed_string : sealed k string_type ≡ string_type
  sealed_string = ap (λ b. if b then string_type else o_type) k.of_string

  sealed_at : (ts : List Ty) (i : ℕ) → sealed k (type_at ts i) ≡ type_at (map (sealed k) ts) i
  sealed_at [] i = sealed_o
  sealed_at (t ∷ ts) zero = refl
  sealed_at (t ∷ ts) (suc i) = sealed_at ts i

  pub sealed_scheme : (ts : List Ty) (T : Ty) → Fits k T → sealed k (instance (type_at ts) T) ≡ instance (type_at (map (sealed k) ts)) T
  sealed_scheme ts T h = sealed_instance (type_at ts) T h ∙ (λ j. instance (λ i. sealed_at ts i j) T)

  given_sealed : (given : Option Ty) (P : Ty) → IsGiven given P → IsGiven (option_map (sealed k) given) (sealed k P)
  given_sealed None P h = tt
  given_sealed (Some A) P h = ap (sealed k) h

  -- a sealed formula is one of the text, where its constants have types that fit
  pub elaborates_sealed : (C : List Ty) (R : Raw) (t : Term) (A : Ty) → RawFits k R → Elaborates C R t A → Elaborates (map (sealed k) C) (sealed_raw k R) (sealed_term k t) (sealed k A)
  elaborates_sealed C (raw_index i) t A h (e, f) = (ap (sealed_term k) e, get_map (sealed k) C i A f)
  elaborates_sealed C (raw_constant c s) t A h (ts, e, n, f) = (map (sealed k) ts, ap (sealed_term k) e, length-map ts (sealed k) ∙ n, ap (sealed k) f ∙ sealed_scheme ts s.body h)
  elaborates_sealed C (raw_integer z) t A h (e, f) = (ap (sealed_term k) e, ap (sealed k) f ∙ sealed_int)
  elaborates_sealed C (raw_text s) t A h (e, f) = (ap (sealed_term k) e, ap (sealed k) f ∙ sealed_string)
  elaborates_sealed C (raw_abs given b) t A h (s, e, P, R, f, g, j) =
      (sealed_term k s, ap (sealed_term k) e, sealed k P, sealed k R, ap (sealed k) f, given_sealed given P g, elaborates_sealed (P ∷ C) b s R h j)
  elaborates_sealed C (raw_app f u) t A (h, l) (g, v, e, P, i, j) =
      (sealed_term k g, sealed_term k v, ap (sealed_term k) e, sealed k P, elaborates_sealed C f g (arrow P A) h i, elaborates_sealed C u v P l j)

  -- a formula of type `o`
  pub formula_sealed : (C : List Ty) (R : Raw) (t : Term) → RawFits k R → Elaborates C R t o_type → Elaborates (map (sealed k) C) (sealed_raw k R) (sealed_term k t) o_type
  formula_sealed C R t h e = subst (Elaborates (map (sealed k) C) (sealed_raw k R) (sealed_term k t)) sealed_o (elaborates_sealed C R t o_type h e)

  -- the types of the language fit
  abbrev SchemeFits : Option Scheme → Type 0
  SchemeFits None = Unit {0}
  SchemeFits (Some s) = Fits k s.body

  entry_fits : (ss : List (Option Scheme)) (c : ℕ) (s : Scheme) → EachOf SchemeFits ss → entry ss c ≡ Some s → Fits k s.body
  entry_fits [] c s h e = absurd (cc)
  entry_fits (o ∷ ss) zero s h e = subst SchemeFits e h.0
  entry_fits (o ∷ ss) (suc c) s h e = entry_fits ss c s h.1 e

  pub language_fits : (c : ℕ) (s : Scheme) → entry standard_schemes c ≡ Some s → Fits k s.body
  language_fits c s e = entry_fits standard_schemes c s all e
    where
      o : Fits k o_type
      o = (k.of_o, tt)

      n : Fits k int_type
      n = (k.of_int, tt)

      z : Fits k string_type
      z = (k.of_string, tt)

      l : (k.known 3 1 ≡ true) × (Unit {0} × Unit {0})
      l = (k.of_list, (tt, tt))

      all : EachOf SchemeFits standard_schemes
      all = ((o, (o, o)), ((o, (o, o)), ((o, (o, o)), ((o, (o, o)), (((tt, o), o), (((tt, o), o), (o, (o, ((tt, (tt, o)), ((tt, (tt, o)), ((n, (n, o)), ((n, (n, o)), ((n, (n, o)), ((n, (n, o)), ((tt, (l, l)), (l, ((n, (n, n)), ((n, (n, n)), ((n, (n, n)), ((n, (n, n)), ((n, (n, n)), ((n, n), ((z, (z, z)), ((z, n), ((o, o), tt)))))))))))))))))))))))))
