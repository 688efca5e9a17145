-- The list of a text gives what the text gives, and leads back to the text.
use Rattle.std.proofs.Common.{◌≡◌, ℕ, suc, ◌+◌, List, [], ◌∷◌, ◌++◌, map, refl, sym, ap, ◌∙◌, Option, None}
use Rattle.std.proofs.lemmas.List.{append-nil, append_assoc, map-append}
use Rattle.lp_calculus.specs.Types.{Ty, var, arrow, instance}
use Rattle.lp_calculus.specs.Typing.{type_at}
use Rattle.lp_type_laws.specs.Equations.{Equation, equation}
use Rattle.lp_infer.specs.Typing.{Raw, raw_index, raw_constant, raw_integer, raw_text, raw_abs, raw_app, put_given, put_raw, term_arguments}
use Rattle.lp_infer.specs.Generate.{fresh, given_equation, generate}
use Rattle.lp_infer.specs.Postfix.{Mark, is_index, is_constant, is_integer, is_text, opens, closes, applies, postfix}
use Rattle.lp_infer.specs.Running.{Sofar, sofar, run}

-- what a text does
abbrev after : Raw → List Ty → ℕ → List Equation → List Ty → List Ty → Sofar
after R C n es as_ st =
    let m = generate C R n in sofar C m.next (es ++ m.equations) (as_ ++ term_arguments m.term) (m.type_is ∷ st)

nothing_more : (ms : List Mark) (C : List Ty) (n : ℕ) (es : List Equation) (as_ st : List Ty) → run ms (sofar C n es as_ st) ≡ run ms (sofar C n (es ++ []) (as_ ++ []) st)
nothing_more ms C n es as_ st = ap (λ l. run ms (sofar C n l as_ st)) (sym (append-nil es)) ∙ ap (λ l. run ms (sofar C n (es ++ []) l st)) (sym (append-nil as_))

pub same_parts : (f x more : List Mark) (m : Mark) → (f ++ (x ++ m ∷ [])) ++ more ≡ f ++ (x ++ (m ∷ more))
same_parts f x more m = append_assoc f (x ++ m ∷ []) more ∙ ap (λ l. f ++ l) (append_assoc x (m ∷ []) more)

pub runs : (R : Raw) (ms : List Mark) (C : List Ty) (n : ℕ) (es : List Equation) (as_ st : List Ty) → run (postfix R ++ ms) (sofar C n es as_ st) ≡ run ms (after R C n es as_ st)
runs (raw_index i) ms C n es as_ st = nothing_more ms C n es as_ (type_at C i ∷ st)
runs (raw_constant c s) ms C n es as_ st =
    ap (λ l. run ms (sofar C (n + s.count) l (as_ ++ fresh s.count n) (instance (type_at (fresh s.count n)) s.body ∷ st))) (sym (append-nil es))
runs (raw_integer z) ms C n es as_ st = nothing_more ms C n es as_ ((generate C (raw_integer z) n).type_is ∷ st)
runs (raw_text t) ms C n es as_ st = nothing_more ms C n es as_ ((generate C (raw_text t) n).type_is ∷ st)
runs (raw_abs given b) ms C n es as_ st =
    let m = generate (var n ∷ C) b (suc n) in
    let first = given_equation given (var n) in
    ap (λ l. run l (sofar (var n ∷ C) (suc n) (es ++ first) as_ st)) (append_assoc (postfix b) (closes ∷ []) ms) ∙
    runs b (closes ∷ ms) (var n ∷ C) (suc n) (es ++ first) as_ st ∙
    ap (λ l. run ms (sofar C m.next l (as_ ++ term_arguments m.term) (arrow (var n) m.type_is ∷ st))) (append_assoc es first m.equations)
runs (raw_app f u) ms C n es as_ st =
    let m = generate C f n in
    let k = generate C u m.next in
    let last : List Equation = equation m.type_is (arrow k.type_is (var k.next)) ∷ [] in
    ap (λ l. run l (sofar C n es as_ st)) (same_parts (postfix f) (postfix u) ms applies) ∙
    runs f (postfix u ++ (applies ∷ ms)) C n es as_ st ∙
    runs u (applies ∷ ms) C m.next (es ++ m.equations) (as_ ++ term_arguments m.term) (m.type_is ∷ st) ∙
    ap (λ l. run ms (sofar C (suc k.next) l ((as_ ++ term_arguments m.term) ++ term_arguments k.term) (var k.next ∷ st))) (append_assoc (es ++ m.equations) k.equations last ∙ append_assoc es m.equations (k.equations ++ last) ∙ ap (λ l. es ++ l) (sym (append_assoc m.equations k.equations last))) ∙
    ap (λ l. run ms (sofar C (suc k.next) (es ++ ((m.equations ++ k.equations) ++ last)) l (var k.next ∷ st))) (append_assoc as_ (term_arguments m.term) (term_arguments k.term))

-- the way back

abbrev back_app : List Raw → List Raw
back_app (u ∷ f ∷ st) = raw_app f u ∷ st
back_app st = st

abbrev back_abs : Option Ty → List Raw → List Raw
back_abs given (b ∷ st) = raw_abs given b ∷ st
back_abs given [] = []

abbrev last_given : List (Option Ty) → Option Ty
last_given [] = None
last_given (g ∷ gs) = g

abbrev other_given : List (Option Ty) → List (Option Ty)
other_given [] = []
other_given (g ∷ gs) = gs

-- the texts that a list puts on a stack; the types of the open abstractions stand apart
abbrev back : List Mark → List (Option Ty) → List Raw → List Raw
back [] gs st = st
back (is_index i ∷ ms) gs st = back ms gs (raw_index i ∷ st)
back (is_constant c s ∷ ms) gs st = back ms gs (raw_constant c s ∷ st)
back (is_integer z ∷ ms) gs st = back ms gs (raw_integer z ∷ st)
back (is_text t ∷ ms) gs st = back ms gs (raw_text t ∷ st)
back (opens g ∷ ms) gs st = back ms (g ∷ gs) st
back (closes ∷ ms) gs st = back ms (other_given gs) (back_abs (last_given gs) st)
back (applies ∷ ms) gs st = back ms gs (back_app st)

backs : (R : Raw) (ms : List Mark) (gs : List (Option Ty)) (st : List Raw) → back (postfix R ++ ms) gs st ≡ back ms gs (R ∷ st)
backs (raw_index i) ms gs st = refl
backs (raw_constant c s) ms gs st = refl
backs (raw_integer z) ms gs st = refl
backs (raw_text t) ms gs st = refl
backs (raw_abs given b) ms gs st = ap (λ l. back l (given ∷ gs) st) (append_assoc (postfix b) (closes ∷ []) ms) ∙ backs b (closes ∷ ms) (given ∷ gs) st
backs (raw_app f u) ms gs st =
    ap (λ l. back l gs st) (same_parts (postfix f) (postfix u) ms applies) ∙ backs f (postfix u ++ (applies ∷ ms)) gs st ∙ backs u (applies ∷ ms) gs (f ∷ st)

abbrev first_or : Raw → List Raw → Raw
first_or R [] = R
first_or R (S ∷ more) = S

one_back : (R : Raw) → back (postfix R) [] [] ≡ R ∷ []
one_back R = ap (λ l. back l [] []) (sym (append-nil (postfix R))) ∙ backs R [] [] []

-- two texts with one list are one
pub postfix_once : (R S : Raw) → postfix R ≡ postfix S → R ≡ S
postfix_once R S e = ap (first_or R) (sym (one_back R) ∙ ap (λ l. back l [] []) e ∙ one_back S)

-- types put for type variables

abbrev pub put_mark : (ℕ → Ty) → Mark → Mark
put_mark ρ (opens given) = opens (put_given ρ given)
put_mark ρ (is_index i) = is_index i
put_mark ρ (is_constant c s) = is_constant c s
put_mark ρ (is_integer z) = is_integer z
put_mark ρ (is_text t) = is_text t
put_mark ρ closes = closes
put_mark ρ applies = applies

pub postfix_put : (ρ : ℕ → Ty) (R : Raw) → postfix (put_raw ρ R) ≡ map (put_mark ρ) (postfix R)
postfix_put ρ (raw_index i) = refl
postfix_put ρ (raw_constant c s) = refl
postfix_put ρ (raw_integer z) = refl
postfix_put ρ (raw_text t) = refl
postfix_put ρ (raw_abs given b) =
    ap (λ l. opens (put_given ρ given) ∷ (l ++ closes ∷ [])) (postfix_put ρ b) ∙ ap (λ l. opens (put_given ρ given) ∷ l) (sym (map-append (put_mark ρ) (postfix b) (closes ∷ [])))
postfix_put ρ (raw_app f u) =
    ap (λ l. l ++ (postfix (put_raw ρ u) ++ applies ∷ [])) (postfix_put ρ f) ∙ ap (λ l. map (put_mark ρ) (postfix f) ++ (l ++ applies ∷ [])) (postfix_put ρ u) ∙
    ap (λ l. map (put_mark ρ) (postfix f) ++ l) (sym (map-append (put_mark ρ) (postfix u) (applies ∷ []))) ∙ sym (map-append (put_mark ρ) (postfix f) (postfix u ++ applies ∷ []))
