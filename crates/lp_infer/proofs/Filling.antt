-- The formula of a text from its type arguments is the one that its equations speak of, and it is what the parts of the text lead to.
use Rattle.std.proofs.Common.{◌≡◌, ℕ, suc, List, [], ◌∷◌, ◌++◌, map, reverse, length, take, drop, refl, sym, ap, ◌∙◌}
use Rattle.std.proofs.lemmas.List.{append_assoc, append-nil, map-append, length-map, length-reverse, take_at, drop_at}
use Rattle.lp_calculus.specs.Types.{Ty, var, instance}
use Rattle.lp_calculus.specs.Term.{Term, atom, abs, app, constant}
use Rattle.lp_infer.specs.Typing.{Raw, raw_index, raw_constant, raw_integer, raw_text, raw_abs, raw_app, instance_term, term_arguments}
use Rattle.lp_infer.specs.Generate.{fresh, generate}
use Rattle.lp_infer.specs.Postfix.{Mark, closes, applies, postfix}
use Rattle.lp_infer.specs.Filling.{fills, Formed, formed, form, form_all}
use Rattle.lp_infer.proofs.Principal.{fresh_length}
use Rattle.lp_infer.proofs.Marked.{same_parts}

pair_same : (a c : Term) (b d : List Ty) → a ≡ c → b ≡ d → ◌≡◌ {A = Term × List Ty} (a, b) (c, d)
pair_same a c b d e f = ap {B = Term × List Ty} (λ t. (t, b)) e ∙ ap {B = Term × List Ty} (λ l. (c, l)) f

-- from the type arguments of the formula, with types for its type variables, the text becomes the formula
pub filled_all : (θ : ℕ → Ty) (R : Raw) (C : List Ty) (n : ℕ) (rest : List Ty) → fills R (map (instance θ) (term_arguments (generate C R n).term) ++ rest) ≡ (instance_term θ (generate C R n).term, rest)
filled_all θ (raw_index i) C n rest = refl
filled_all θ (raw_constant c s) C n rest =
    let Ts = map (instance θ) (fresh s.count n) in
    let many : length Ts ≡ s.count = length-map (fresh s.count n) (instance θ) ∙ fresh_length s.count n in
    pair_same (atom (constant c (take s.count (Ts ++ rest)))) (atom (constant c Ts)) (drop s.count (Ts ++ rest)) rest (ap (λ l. atom (constant c l)) (take_at Ts rest s.count many)) (drop_at Ts rest s.count many)
filled_all θ (raw_integer z) C n rest = refl
filled_all θ (raw_text t) C n rest = refl
filled_all θ (raw_abs given b) C n rest = ap (λ p. (abs p.0, p.1)) (filled_all θ b (var n ∷ C) (suc n) rest)
filled_all θ (raw_app f u) C n rest =
    let m = generate C f n in
    let k = generate C u m.next in
    let A = map (instance θ) (term_arguments m.term) in
    let B = map (instance θ) (term_arguments k.term) in
    ap (λ l. fills (raw_app f u) (l ++ rest)) (map-append (instance θ) (term_arguments m.term) (term_arguments k.term)) ∙ ap (fills (raw_app f u)) (append_assoc A B rest) ∙
    ap (λ g. (app g.0 (fills u g.1).0, (fills u g.1).1)) (filled_all θ f C n (B ++ rest)) ∙ ap (λ v. (app (instance_term θ m.term) v.0, v.1)) (filled_all θ u C m.next rest)

-- the types of the variables stand before the type arguments
pub filled : (θ : ℕ → Ty) (R : Raw) (C : List Ty) (n count next : ℕ) (Ts : List Ty) → Ts ≡ map (instance θ) (reverse (fresh count next) ++ term_arguments (generate C R n).term) →
    (fills R (drop count Ts)).0 ≡ instance_term θ (generate C R n).term
filled θ R C n count next Ts e =
    let A = term_arguments (generate C R n).term in
    let vars = map (instance θ) (reverse (fresh count next)) in
    let many : length vars ≡ count = length-map (reverse (fresh count next)) (instance θ) ∙ length-reverse (fresh count next) ∙ fresh_length count next in
    ap (λ l. (fills R (drop count l)).0) (e ∙ map-append (instance θ) (reverse (fresh count next)) A) ∙ ap (λ l. (fills R l).0) (drop_at vars (map (instance θ) A) count many) ∙
    ap (λ l. (fills R l).0) (sym (append-nil (map (instance θ) A))) ∙ ap (λ p. p.0) (filled_all θ R C n [])

-- the parts of a text lead to its formula
pub forms : (R : Raw) (ms : List Mark) (ts : List Term) (Ts : List Ty) → form_all (postfix R ++ ms) (formed ts Ts) ≡ form_all ms (formed ((fills R Ts).0 ∷ ts) (fills R Ts).1)
forms (raw_index i) ms ts Ts = refl
forms (raw_constant c s) ms ts Ts = refl
forms (raw_integer z) ms ts Ts = refl
forms (raw_text t) ms ts Ts = refl
forms (raw_abs given b) ms ts Ts = ap (λ l. form_all l (formed ts Ts)) (append_assoc (postfix b) (closes ∷ []) ms) ∙ forms b (closes ∷ ms) ts Ts
forms (raw_app f u) ms ts Ts =
    ap (λ l. form_all l (formed ts Ts)) (same_parts (postfix f) (postfix u) ms applies) ∙ forms f (postfix u ++ (applies ∷ ms)) ts Ts ∙ forms u (applies ∷ ms) ((fills f Ts).0 ∷ ts) (fills f Ts).1

pub formed_whole : (R : Raw) (Ts : List Ty) → form_all (postfix R) (formed [] Ts) ≡ formed ((fills R Ts).0 ∷ []) (fills R Ts).1
formed_whole R Ts = ap (λ l. form_all l (formed [] Ts)) (sym (append-nil (postfix R))) ∙ forms R [] [] Ts

pub form_more : (ms : List Mark) (m : Mark) (f : Formed) → form_all (ms ++ m ∷ []) f ≡ form m (form_all ms f)
form_more [] m f = refl
form_more (k ∷ ms) m f = form_more ms m (form k f)
