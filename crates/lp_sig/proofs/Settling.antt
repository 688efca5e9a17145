-- A body that is settled is that of its name, and the others stay.
use Rattle.std.specs.Global.{Global}
use Rattle.std.proofs.Common.{◌≡◌, ℕ, zero, suc, ◌+◌, ◌<◌, ◌≤◌, Bool, true, false, ⊎_elim, List, [], ◌∷◌, length, map, get_or, Option, Some, None, refl, sym, ap, subst, ◌∙◌, inl, inr, arith}
use Rattle.std.specs.Prelude.{◌⊎◌, IfSome, Vec, slice_set, slice_index_or, nat_le}
use Rattle.std.proofs.lemmas.Bool.{leb-true, leb-false}
use Rattle.std.proofs.lemmas.List.{length-map}
use Rattle.lp_base.specs.declared.place.Spot.{Spot}
use Rattle.lp_term.specs.Nodes.{Nodes, type_tree}
use Rattle.lp_term.specs.declared.node.TypeId.{TypeId}
use Rattle.lp_syntax.specs.declared.text.Declaration.{Declaration}
use Rattle.lp_syntax.specs.declared.text.RawType.{RawType}
use Rattle.lp_sig.specs.Places.{first_place}
use Rattle.lp_sig.specs.Rows.{Row, found}
use Rattle.lp_sig.specs.Limits.{AreApart}
use Rattle.lp_sig.specs.Said.{Said}
use Rattle.lp_sig.specs.Abbreviations.{abbreviation_names}
use Rattle.lp_sig.specs.Types.{Definition, in_text, by_parameters, IsTypeOf, written_body, HasBody}
use Rattle.lp_sig.specs.Holding.{line_at, IsTree, HoldsBodies, HoldsLines}
use Rattle.lp_sig.specs.declared.bodies.Body.{Body}

pub map_set : {A B : Type 0} (f : A → B) (xs : List A) (i : ℕ) (x : A) → map f (slice_set xs i x) ≡ slice_set (map f xs) i (f x)
map_set f [] i x = refl
map_set f (y ∷ ys) zero x = refl
map_set f (y ∷ ys) (suc i) x = ap (λ l. f y ∷ l) (map_set f ys i x)

set_same : {A : Type 0} (xs : List A) (i : ℕ) (d : A) → slice_set xs i (get_or xs i d) ≡ xs
set_same [] i d = refl
set_same (y ∷ ys) zero d = refl
set_same (y ∷ ys) (suc i) d = ap (λ l. y ∷ l) (set_same ys i d)

line_same : (bodies : List Body) (i : ℕ) (known : Body) → known ≡ get_or bodies i known → slice_set (map (λ b. b.line) bodies) i known.line ≡ map (λ b. b.line) bodies
line_same bodies i known at =
    sym (map_set (λ b. b.line) bodies i known) ∙ ap (λ b. map (λ b. b.line) (slice_set bodies i b)) at ∙ ap (map (λ b. b.line)) (set_same bodies i known)

pub lines_same : (bodies : List Body) (i : ℕ) (known new : Body) → known ≡ get_or bodies i known → new.line ≡ known.line → map (λ b. b.line) (slice_set bodies i new) ≡ map (λ b. b.line) bodies
lines_same bodies i known new at same = map_set (λ b. b.line) bodies i new ∙ ap (slice_set (map (λ b. b.line) bodies) i) same ∙ line_same bodies i known at

body_same : (bodies : List Body) (i : ℕ) (known : Body) → known ≡ get_or bodies i known → slice_set (map (λ b. b.body) bodies) i known.body ≡ map (λ b. b.body) bodies
body_same bodies i known at =
    sym (map_set (λ b. b.body) bodies i known) ∙ ap (λ b. map (λ b. b.body) (slice_set bodies i b)) at ∙ ap (map (λ b. b.body)) (set_same bodies i known)

pub bodies_same : (bodies : List Body) (i : ℕ) (known new : Body) → known ≡ get_or bodies i known → new.body ≡ known.body → map (λ b. b.body) (slice_set bodies i new) ≡ map (λ b. b.body) bodies
bodies_same bodies i known new at same = map_set (λ b. b.body) bodies i new ∙ ap (slice_set (map (λ b. b.body) bodies) i) same ∙ body_same bodies i known at

-- lines that are left
none_set : (xs : List (Option ℕ)) (i j : ℕ) → (slice_index_or xs j None ≡ None) ⊎ (j ≡ i) → slice_index_or (slice_set xs i None) j None ≡ None
none_set [] i j (inl e) = e
none_set [] i j (inr e) = refl
none_set (x ∷ xs) zero zero h = refl
none_set (x ∷ xs) zero (suc j) (inl e) = e
none_set (x ∷ xs) zero (suc j) (inr e) = absurd (omega (arith, e))
none_set (x ∷ xs) (suc i) zero (inl e) = e
none_set (x ∷ xs) (suc i) zero (inr e) = absurd (omega (arith, e))
none_set (x ∷ xs) (suc i) (suc j) (inl e) = none_set xs i j (inl e)
none_set (x ∷ xs) (suc i) (suc j) (inr e) = none_set xs i j (inr (omega (arith, e)))

pub before_or_at : (i j : ℕ) → j < i + 1 → (j < i) ⊎ (j ≡ i)
before_or_at zero zero h = inr refl
before_or_at zero (suc j) h = absurd (omega (arith, h))
before_or_at (suc i) zero h = inl (omega arith)
before_or_at (suc i) (suc j) h = ⊎_elim (λ l. inl (omega (arith, l))) (λ e. inr (ap (λ n. suc n) e)) (before_or_at i j (omega (arith, h)))

pub no_line_before : (old new : List Body) (place : ℕ) → map (λ b. b.line) new ≡ slice_set (map (λ b. b.line) old) place None → ((i : ℕ) → i < place → line_at old i ≡ None) → (i : ℕ) → i < place + 1 → line_at new i ≡ None
no_line_before old new place put before i h =
    ap (λ l. slice_index_or l i None) put ∙ none_set (map (λ b. b.line) old) place i (⊎_elim (λ l. inl (before i l)) (λ e. inr e) (before_or_at place i h))

past_end : {A : Type 0} (xs : List (Option A)) (i : ℕ) → length xs ≤ i → slice_index_or xs i None ≡ None
past_end [] i h = refl
past_end (x ∷ xs) zero h = absurd (omega (arith, h))
past_end (x ∷ xs) (suc i) h = past_end xs i (omega (arith, h))

pub no_line_past : (first : Vec Body Global) (bodies : List Body) (place : ℕ) → map (λ b. b.body) bodies ≡ map (λ b. b.body) first.items → length first.items ≤ place → ((i : ℕ) → i < place → line_at bodies i ≡ None) → (i : ℕ) → line_at bodies i ≡ None
no_line_past first bodies place same h before i = by (nat_le place i) refl
  where
    by : (t : Bool) → nat_le place i ≡ t → line_at bodies i ≡ None
    by true t =
        let l : place ≤ i = leb-true place i t in
        let a = length-map bodies (λ b. b.body) in
        let b = length-map first.items (λ b. b.body) in
        let c = ap length same in
        let d = length-map bodies (λ b. b.line) in
        past_end (map (λ b. b.line) bodies) i (omega (arith, l, a, b, c, d, h))
    by false t = before i (leb-false place i t)

pub lines_stay : (old new : List Body) (said : List (Row Said)) (defs : List (Row Definition)) (text : List ℕ) (declared : ℕ → Option Declaration) → map (λ b. b.line) new ≡ map (λ b. b.line) old → HoldsLines old said defs text declared → HoldsLines new said defs text declared
lines_stay old new said defs text declared same h = λ name place line s ps ty at is. h name place line s ps ty at (ap (λ l. slice_index_or l place None) (sym same) ∙ is)

pub body_is : (b : Nodes) (said : List (Row Said)) (defs : List (Row Definition)) (name text : List ℕ) (ps slice : List Spot) (ty : RawType) (o : Option TypeId) → slice ≡ ps → AreApart text slice → found name defs ≡ Some (in_text text ps ty) →
    IfSome o (IsTree b (IsTypeOf said defs text (by_parameters text slice) ty.nodes.items ty.root)) → IfSome o (IsTree b (HasBody said defs name))
body_is b said defs name text ps slice ty None same apart f h = tt
body_is b said defs name text ps slice ty (Some id) same apart f h =
    (h.0, record { definition = in_text text ps ty; declared = f; is = written_body text ps ty refl (subst (AreApart text) same apart) (subst (λ ps. IsTypeOf said defs text (by_parameters text ps) ty.nodes.items ty.root (type_tree b id.0)) same h.1) })

set_cases : (xs : List (Option TypeId)) (i : ℕ) (x : Option TypeId) (p : ℕ) (id : TypeId) → slice_index_or (slice_set xs i x) p None ≡ Some id → (slice_index_or xs p None ≡ Some id) ⊎ ((p ≡ i) × (x ≡ Some id))
set_cases [] i x p id e = inl e
set_cases (y ∷ ys) zero x zero id e = inr (refl, e)
set_cases (y ∷ ys) zero x (suc p) id e = inl e
set_cases (y ∷ ys) (suc i) x zero id e = inl e
set_cases (y ∷ ys) (suc i) x (suc p) id e = deeper (set_cases ys i x p id e)
  where
    deeper : (slice_index_or ys p None ≡ Some id) ⊎ ((p ≡ i) × (x ≡ Some id)) → (slice_index_or ys p None ≡ Some id) ⊎ ((suc p ≡ suc i) × (x ≡ Some id))
    deeper (inl f) = inl f
    deeper (inr q) = inr (ap (λ n. suc n) q.0, q.1)

pub put_holds : (b : Nodes) (bodies new : List Body) (said : List (Row Said)) (defs : List (Row Definition)) (place : ℕ) (o : Option TypeId) → HoldsBodies b bodies said defs → map (λ b. b.body) new ≡ slice_set (map (λ b. b.body) bodies) place o →
    ((name : List ℕ) → first_place name (abbreviation_names said) ≡ Some place → IfSome o (IsTree b (HasBody said defs name))) → HoldsBodies b new said defs
put_holds b bodies new said defs place o h put this = λ name p id at is. by name p id at (set_cases (map (λ b. b.body) bodies) place o p id (ap (λ l. slice_index_or l p None) (sym put) ∙ is))
  where
    some : (o : Option TypeId) (id : TypeId) (P : TypeId → Type 0) → o ≡ Some id → IfSome o P → P id
    some o id P e h = subst (λ o. IfSome o P) e h

    by : (name : List ℕ) (p : ℕ) (id : TypeId) → first_place name (abbreviation_names said) ≡ Some p → (slice_index_or (map (λ b. b.body) bodies) p None ≡ Some id) ⊎ ((p ≡ place) × (o ≡ Some id)) → IsTree b (HasBody said defs name) id
    by name p id at (inl f) = h name p id at f
    by name p id at (inr q) = some o id (IsTree b (HasBody said defs name)) q.1 (this name (at ∙ ap (λ p. Some p) q.0))
