-- Two types of one constructor, taken apart.
use Rattle.std.proofs.Common.{◌≡◌, ◌≢◌, ℕ, suc, ◌<◌, List, [], ◌∷◌, ◌++◌, map, length, reverse, Some, None, refl, sym, ap, ◌∙◌, subst, arith}
use Rattle.std.specs.Prelude.{if◌then◌else◌, All}
use Rattle.std.proofs.lemmas.List.{map-append}
use Rattle.std.proofs.lemmas.List.Elements.{All-append, All-cons, All-nil, All-head, All-tail}
use Rattle.std.proofs.lemmas.Bool.{eq-eqb}
use Rattle.lp_lemmas.proofs.Lists.{map_reverse}
use Rattle.lp_lemmas.proofs.Elements.{All_reverse}
use Rattle.lp_calculus.specs.Types.{Ty, Tys, con, tys, instance}
use Rattle.lp_term.specs.declared.node.TypeId.{TypeId}
use Rattle.lp_type_laws.specs.Equations.{Equation, equation}
use Rattle.lp_type_laws.specs.Solving.{clash, pairs, look_parts, look, clashes, goes, turn_of, turn}
use Rattle.lp_type_unify.specs.declared.bindings.Pair.{Pair}
use Rattle.lp_type_unify.specs.Reading.{IsPair, read_pair, read_pairs}
use Rattle.lp_type_unify.specs.Looking.{zipped}
use Rattle.lp_type_unify.proofs.Stacks.{numbers, Parts, parts_known, reverse_onto}

pairs_zipped : (τ θ : ℕ → Ty) (ids js : List TypeId) → length ids ≡ length js → pairs (Parts τ θ ids) (Parts τ θ js) ≡ Some (map (read_pair τ θ) (zipped ids js))
pairs_zipped τ θ [] [] e = refl
pairs_zipped τ θ [] (j ∷ js) e = absurd (omega arith)
pairs_zipped τ θ (i ∷ is) [] e = absurd (omega arith)
pairs_zipped τ θ (i ∷ is) (j ∷ js) e =
    ap (λ o. elim o [ None ↦ None | Some es ↦ Some (equation (instance θ (τ i.0)) (instance θ (τ j.0)) ∷ es) ]) (pairs_zipped τ θ is js (omega arith))

pairs_uneven : (τ θ : ℕ → Ty) (ids js : List TypeId) → length ids ≢ length js → pairs (Parts τ θ ids) (Parts τ θ js) ≡ None
pairs_uneven τ θ [] [] e = absurd (e refl)
pairs_uneven τ θ [] (j ∷ js) e = refl
pairs_uneven τ θ (i ∷ is) [] e = refl
pairs_uneven τ θ (i ∷ is) (j ∷ js) e =
    ap (λ o. elim o [ None ↦ None | Some es ↦ Some (equation (instance θ (τ i.0)) (instance θ (τ j.0)) ∷ es) ]) (pairs_uneven τ θ is js (λ f. e (ap suc f)))

pub read_onto : (τ θ : ℕ → Ty) (old zs : List Pair) → read_pairs τ θ (old ++ reverse zs) ≡ map (read_pair τ θ) zs ++ read_pairs τ θ old
read_onto τ θ old zs =
    ap reverse (map-append (read_pair τ θ) old (reverse zs) ∙ ap (λ l. map (read_pair τ θ) old ++ l) (map_reverse (read_pair τ θ) zs)) ∙
    reverse_onto (map (read_pair τ θ) old) (map (read_pair τ θ) zs)

look_equal : (c d : ℕ) (ts us : Tys) → c ≡ d → look (con c ts) (con d us) ≡ look_parts (pairs ts us)
look_equal c d ts us e = ap (λ b. if b then look_parts (pairs ts us) else clash) (eq-eqb c d e)

pub turned_even : (τ θ : ℕ → Ty) (c d : ℕ) (ids js : List TypeId) (A B : Ty) (old new : List Pair) →
    con c (tys (map τ (numbers ids))) ≡ A → con d (tys (map τ (numbers js))) ≡ B → c ≡ d → length ids ≡ length js → new ≡ old ++ reverse (zipped ids js) →
    turn (equation (instance θ A) (instance θ B)) (read_pairs τ θ old) θ ≡ goes (read_pairs τ θ new) θ
turned_even τ θ c d ids js A B old new a b e l n =
    ap (λ t. turn (equation (instance θ t) (instance θ B)) (read_pairs τ θ old) θ) (sym a) ∙
    ap (λ t. turn_of (look (con c (Parts τ θ ids)) (instance θ t)) (read_pairs τ θ old) θ) (sym b) ∙
    ap (λ m. turn_of m (read_pairs τ θ old) θ) (look_equal c d (Parts τ θ ids) (Parts τ θ js) e ∙ ap look_parts (pairs_zipped τ θ ids js l)) ∙
    ap (λ es. goes es θ) (sym (read_onto τ θ old (zipped ids js)) ∙ ap (read_pairs τ θ) (sym n))

pub turned_uneven : (τ θ : ℕ → Ty) (c d : ℕ) (ids js : List TypeId) (A B : Ty) (es : List Equation) →
    con c (tys (map τ (numbers ids))) ≡ A → con d (tys (map τ (numbers js))) ≡ B → c ≡ d → length ids ≢ length js →
    turn (equation (instance θ A) (instance θ B)) es θ ≡ clashes
turned_uneven τ θ c d ids js A B es a b e l =
    ap (λ t. turn (equation (instance θ t) (instance θ B)) es θ) (sym a) ∙
    ap (λ t. turn_of (look (con c (Parts τ θ ids)) (instance θ t)) es θ) (sym b) ∙
    ap (λ m. turn_of m es θ) (look_equal c d (Parts τ θ ids) (Parts τ θ js) e ∙ ap look_parts (pairs_uneven τ θ ids js l))

zipped_known : (n : ℕ) (ids js : List TypeId) → All (λ t. t.0 < n) ids → All (λ t. t.0 < n) js → All (IsPair n) (zipped ids js)
zipped_known n [] js a b = All-nil (IsPair n)
zipped_known n (i ∷ is) [] a b = All-nil (IsPair n)
zipped_known n (i ∷ is) (j ∷ js) a b =
    All-cons (IsPair n) (record { left = i; right = j }) (zipped is js)
    (All-head (λ t. t.0 < n) i is a, All-head (λ t. t.0 < n) j js b)
    (zipped_known n is js (All-tail (λ t. t.0 < n) i is a) (All-tail (λ t. t.0 < n) j js b))

pub todos_even : (n : ℕ) (ids js : List TypeId) (left right : TypeId) (old new : List Pair) →
    All (λ t. t < left.0) (numbers ids) → All (λ t. t < right.0) (numbers js) →
    new ≡ old ++ reverse (zipped ids js) → left.0 < n → right.0 < n → All (IsPair n) old → All (IsPair n) new
todos_even n ids js left right old new x y e k l h =
    subst (λ ps. All (IsPair n) ps) (sym e)
    (All-append (IsPair n) old (reverse (zipped ids js)) h
    (All_reverse (IsPair n) (zipped ids js)
    (zipped_known n ids js (parts_known n left.0 ids k x) (parts_known n right.0 js l y))))
