-- The tokens of a declaration are one declaration.
use Rattle.std.proofs.Common.{◌≡◌, ◌≢◌, ℕ, zero, suc, ◌+◌, ◌<◌, Bool, true, false, List, [], ◌∷◌, ◌++◌, length, refl, sym, ap, ◌∙◌, subst, arith}
use Rattle.std.specs.Prelude.{Some, None, ℤ}
use Rattle.lp_lemmas.proofs.Lists.{cons_equal}
use Rattle.lp_syntax.specs.declared.class.Keyword.{Keyword}
use Rattle.lp_syntax.specs.declared.class.Keyword.TheVariants as keyword
use Rattle.lp_syntax.specs.declared.class.Class.{Class}
use Rattle.lp_syntax.specs.declared.class.Class.TheVariants as class
use Rattle.lp_syntax.specs.Tokens.{Lexeme, class_at}
use Rattle.lp_syntax.specs.Types.{TypeTree, Level, Whole, IsType, word, variable, group, head, applied, side_head, side_argument, target, arrow}
use Rattle.lp_syntax.specs.Declarations.{WithCommas, none_listed, one_listed, AreNames, KindFront, no_argument, argument, IsKindText, Parameters, no_parameter, parameter, IsHeadAt, bare, bracketed, HasNumber, saturated, one_more, EndsAt, Line, KindLine, LocalKindLine, ConstantLine, LocalLine, AbbreviationLine, AccumulateLine, AccumSigLine, FixityLine, IsBody, kinds, local_kinds, local_kinds_of, constants, locals, locals_of, abbreviation, accumulate, accum_sig, fixities}
use Rattle.lp_syntax.specs.Signatures.{IsLine, AreLines, no_line, one_line, IsSignature}
use Rattle.lp_syntax.proofs.TypeFaults.{Compared, less, same, more, compared}
use Rattle.lp_syntax.proofs.TypeUnique.{one_type}
use Rattle.lp_syntax.proofs.LineStops.{one_end}
use Rattle.lp_syntax.proofs.SignatureFaults.{line_runs_of, line_longer, lines_grow}

-- names stand at every other token
unfoldable evens : ℕ → ℕ → List ℕ
evens i zero = []
evens i (suc n) = evens i n ++ (i + n + n) ∷ []

commas_long : (ls : List Lexeme) (w : Bool) (i j : ℕ) (ns : List ℕ) → WithCommas ls w i j ns → (n : ℕ) × (j ≡ i + n + n) × (ns ≡ evens i n)
unfolding evens
commas_long ls w i j ns none_listed = (0, omega arith, refl)
commas_long ls w i j ns (one_listed k _ ms _ d f c e a) =
    let h = commas_long ls w i k ms d in
    let x = h.1 in
    (suc h.0, omega (arith, x, e), a ∙ (λ z. h.2 z ++ h.1 z ∷ []))

commas_same : (ls : List Lexeme) (w : Bool) (i j : ℕ) (ns ms : List ℕ) → WithCommas ls w i j ns → WithCommas ls w i j ms → ns ≡ ms
commas_same ls w i j ns ms d e =
    let a = commas_long ls w i j ns d in
    let b = commas_long ls w i j ms e in
    let x = a.1 in
    let y = b.1 in
    let z : a.0 ≡ b.0 = omega (arith, x, y) in
    a.2 ∙ ap (evens i) z ∙ sym b.2

-- behind names that go on there is a comma
comma_behind : (ls : List Lexeme) (w : Bool) (i m j : ℕ) (ns ms : List ℕ) → WithCommas ls w i m ns → WithCommas ls w i j ms → m < j → class_at ls (m + 1) ≡ class.Comma
comma_behind ls w i m j ns ms d none_listed l = let h = commas_long ls w i m ns d in let x = h.1 in absurd (omega (arith, x, l))
comma_behind ls w i m j ns ms d (one_listed k _ qs _ e f c p a) l = by_place (compared m k) (λ q. comma_behind ls w i m k ns qs d e q)
  where
    parity : k < m → ⊥
    parity q =
        let x = (commas_long ls w i m ns d).1 in
        let y = (commas_long ls w i k qs e).1 in
        omega (arith, x, y, q, p, l)

    by_place : Compared m k → (m < k → class_at ls (m + 1) ≡ class.Comma) → class_at ls (m + 1) ≡ class.Comma
    by_place (less q) h = h q
    by_place (same q) h = ap (λ z. class_at ls (z + 1)) q ∙ c
    by_place (more q) h = absurd (parity q)

names_same : (ls : List Lexeme) (w : Bool) (i j : ℕ) (ns ms : List ℕ) → AreNames ls w i j ns → AreNames ls w i j ms → ns ≡ ms
names_same ls w i j ns ms a b =
    let x = a.end in
    let y = b.end in
    let e : a.final ≡ b.final = omega (arith, x, y) in
    a.all ∙ (λ z. commas_same ls w i b.final a.front b.front (subst (λ k. WithCommas ls w i k a.front) e a.before) b.before z ++ e z ∷ []) ∙ sym b.all

-- names with something else than a comma behind them end at one place
names_end : (ls : List Lexeme) (w : Bool) (i j k : ℕ) (ns ms : List ℕ) → AreNames ls w i j ns → class_at ls j ≢ class.Comma → AreNames ls w i k ms → class_at ls k ≢ class.Comma → j ≡ k
names_end ls w i j k ns ms a n b m = go (compared j k)
  where
    over : (j k : ℕ) (ns ms : List ℕ) → AreNames ls w i j ns → class_at ls j ≢ class.Comma → AreNames ls w i k ms → j < k → ⊥
    over j k ns ms a n b l = let x = a.end in let y = b.end in n (ap (class_at ls) x ∙ comma_behind ls w i a.final b.final a.front b.front a.before b.before (omega (arith, x, y, l)))

    go : Compared j k → j ≡ k
    go (less l) = absurd (over j k ns ms a n b l)
    go (same p) = p
    go (more l) = absurd (over k j ms ns b m a l)

apart : {c a b : Class} → c ≡ a → (a ≡ b → ⊥) → c ≢ b
apart e n f = n (sym e ∙ f)

-- what begins a type
type_first : (ls : List Lexeme) (v : Level) (i j : ℕ) (t : TypeTree) (c : Class) → IsType ls v i j t → c ≢ class.Lower → c ≢ class.Upper → c ≢ class.Open → class_at ls i ≢ c
type_first ls v i j t c (word _ e) a b d = λ h. a (sym h ∙ e)
type_first ls v i j t c (variable _ e) a b d = λ h. b (sym h ∙ e)
type_first ls v i j t c (group _ m w e x f) a b d = λ h. d (sym h ∙ e)
type_first ls v i j t c (head _ e) a b d = λ h. a (sym h ∙ e)
type_first ls v i j t c (applied _ m _ w x e f) a b d = type_first ls _ i m w c e a b d
type_first ls v i j t c (side_head _ _ _ e) a b d = type_first ls _ i j t c e a b d
type_first ls v i j t c (side_argument _ _ _ e) a b d = type_first ls _ i j t c e a b d
type_first ls v i j t c (target _ _ _ e) a b d = type_first ls _ i j t c e a b d
type_first ls v i j t c (arrow _ m _ w x e f g) a b d = type_first ls _ i m w c e a b d

no_comma_type : (ls : List Lexeme) (i j : ℕ) (t : TypeTree) → IsType ls Whole i j t → class_at ls i ≢ class.Comma
no_comma_type ls i j t d = type_first ls Whole i j t class.Comma d (λ z. cc) (λ z. cc) (λ z. cc)

no_dot_type : (ls : List Lexeme) (i j : ℕ) (t : TypeTree) → IsType ls Whole i j t → class_at ls i ≢ class.Dot
no_dot_type ls i j t d = type_first ls Whole i j t class.Dot d (λ z. cc) (λ z. cc) (λ z. cc)

kind_word : (ls : List Lexeme) (i j n : ℕ) → IsKindText ls i j n → class_at ls i ≡ class.Keyword keyword.Type
kind_word ls i j n k = go i k.final n k.front k.target
  where
    go : (i j n : ℕ) → KindFront ls i j n → class_at ls j ≡ class.Keyword keyword.Type → class_at ls i ≡ class.Keyword keyword.Type
    go i j n no_argument e = e
    go i j n (argument k _ m _ d t a p w) e = go i k m d t

no_comma_kind : (ls : List Lexeme) (i j n : ℕ) → IsKindText ls i j n → class_at ls i ≢ class.Comma
no_comma_kind ls i j n k = apart (kind_word ls i j n k) (λ z. cc)

no_dot_kind : (ls : List Lexeme) (i j n : ℕ) → IsKindText ls i j n → class_at ls i ≢ class.Dot
no_dot_kind ls i j n k = apart (kind_word ls i j n k) (λ z. cc)

-- how many arguments there are
unfoldable counted : ℕ → ℕ
counted zero = 0
counted (suc n) = one_more (counted n)

front_long : (ls : List Lexeme) (i j n : ℕ) → KindFront ls i j n → (m : ℕ) × (j ≡ i + m + m) × (n ≡ counted m)
unfolding counted
front_long ls i j n no_argument = (0, omega arith, refl)
front_long ls i j n (argument k _ m _ d t a p w) = let h = front_long ls i k m d in let x = h.1 in (suc h.0, omega (arith, x, p), w ∙ ap one_more h.2)

kind_same : (ls : List Lexeme) (i j n m : ℕ) → IsKindText ls i j n → IsKindText ls i j m → n ≡ m
kind_same ls i j n m a b =
    let f = front_long ls i a.final n a.front in
    let g = front_long ls i b.final m b.front in
    let x = f.1 in
    let y = g.1 in
    let u = a.end in
    let v = b.end in
    let z : f.0 ≡ g.0 = omega (arith, x, y, u, v) in
    f.2 ∙ ap counted z ∙ sym g.2

number_same : (ls : List Lexeme) (i n m : ℕ) → HasNumber ls i n → HasNumber ls i m → n ≡ m
number_same ls i n m a b = a.is ∙ ap saturated (same_number (sym a.there ∙ b.there)) ∙ sym b.is
  where
    same_number : {x y : ℤ} → class.Number x ≡ class.Number y → x ≡ y
    same_number e = cc

no_comma_number : (ls : List Lexeme) (i n : ℕ) → HasNumber ls i n → class_at ls i ≢ class.Comma
no_comma_number ls i n a = apart a.there (λ z. cc)

-- heads of abbreviations
unfoldable run_of : ℕ → ℕ → List ℕ
run_of i zero = []
run_of i (suc n) = run_of i n ++ (i + n) ∷ []

parameters_long : (ls : List Lexeme) (i j : ℕ) (ns : List ℕ) → Parameters ls i j ns → (n : ℕ) × (j ≡ i + n) × (ns ≡ run_of i n)
unfolding run_of
parameters_long ls i j ns no_parameter = (0, omega arith, refl)
parameters_long ls i j ns (parameter k _ ms _ d u p a) = let h = parameters_long ls i k ms d in let x = h.1 in (suc h.0, omega (arith, x, p), a ∙ (λ z. h.2 z ++ h.1 z ∷ []))

upper_behind : (ls : List Lexeme) (i m j : ℕ) (ns ms : List ℕ) → Parameters ls i m ns → Parameters ls i j ms → m < j → class_at ls m ≡ class.Upper
upper_behind ls i m j ns ms d no_parameter l = let h = parameters_long ls i m ns d in let x = h.1 in absurd (omega (arith, x, l))
upper_behind ls i m j ns ms d (parameter k _ qs _ e u p a) l = by_place (compared m k) (λ q. upper_behind ls i m k ns qs d e q)
  where
    by_place : Compared m k → (m < k → class_at ls m ≡ class.Upper) → class_at ls m ≡ class.Upper
    by_place (less q) h = h q
    by_place (same q) h = ap (class_at ls) q ∙ u
    by_place (more q) h = absurd (omega (arith, q, p, l))

close_end : (ls : List Lexeme) (i j k : ℕ) (ns ms : List ℕ) → Parameters ls i j ns → class_at ls j ≡ class.Close → Parameters ls i k ms → class_at ls k ≡ class.Close → j ≡ k
close_end ls i j k ns ms a e b f = go (compared j k)
  where
    go : Compared j k → j ≡ k
    go (less l) = absurd (let z : class.Close ≡ class.Upper = sym e ∙ upper_behind ls i j k ns ms a b l in cc)
    go (same p) = p
    go (more l) = absurd (let z : class.Close ≡ class.Upper = sym f ∙ upper_behind ls i k j ms ns b a l in cc)

record SameHead (j k n m : ℕ) (ns ms : List ℕ) : Type 0 where
  pub ends : j ≡ k
  pub name : n ≡ m
  pub all : ns ≡ ms

heads_same : (ls : List Lexeme) (i j k n m : ℕ) (ns ms : List ℕ) → IsHeadAt ls i j n ns → IsHeadAt ls i k m ms → SameHead j k n m ns ms
heads_same ls i j k n m ns ms (bare _ _ _ _ c e s a) (bare _ _ _ _ d f t b) = record { ends = e ∙ sym f; name = s ∙ sym t; all = a ∙ sym b }
heads_same ls i j k n m ns ms (bare _ _ _ _ c e s a) (bracketed _ q _ _ _ o w t p d f) = absurd (let z : class.Lower ≡ class.Open = sym c ∙ o in cc)
heads_same ls i j k n m ns ms (bracketed _ q _ _ _ o w t p d f) (bare _ _ _ _ c e s a) = absurd (let z : class.Lower ≡ class.Open = sym c ∙ o in cc)
heads_same ls i j k n m ns ms (bracketed _ q _ _ _ o w t p d f) (bracketed _ r _ _ _ o' w' t' p' d' f') =
    let e = close_end ls (i + 1 + 1) q r ns ms p d p' d' in
    let a = parameters_long ls (i + 1 + 1) q ns p in
    let b = parameters_long ls (i + 1 + 1) r ms p' in
    let x = a.1 in
    let y = b.1 in
    let z : a.0 ≡ b.0 = omega (arith, x, y, e) in
    record { ends = f ∙ ap (λ v. v + 1) e ∙ sym f'; name = t ∙ sym t'; all = a.2 ∙ ap (run_of (i + 1 + 1)) z ∙ sym b.2 }

-- types between two places
types_same : (ls : List Lexeme) (i j k l e : ℕ) (t u : TypeTree) → i ≡ j → IsType ls Whole i k t → EndsAt ls k e → IsType ls Whole j l u → EndsAt ls l e → t ≡ u
types_same ls i j k l e t u p a x b y =
    let v = x.1 in
    let w = y.1 in
    let q : l ≡ k = omega (arith, v, w) in
    one_type ls Whole i k t u a (subst (λ z. IsType ls Whole i z u) q (subst (λ z. IsType ls Whole z l u) (sym p) b))

kinds_same : (ls : List Lexeme) (i j k l e n m : ℕ) → i ≡ j → IsKindText ls i k n → EndsAt ls k e → IsKindText ls j l m → EndsAt ls l e → n ≡ m
kinds_same ls i j k l e n m p a x b y =
    let v = x.1 in
    let w = y.1 in
    let q : l ≡ k = omega (arith, v, w) in
    kind_same ls i k n m a (subst (λ z. IsKindText ls i z m) q (subst (λ z. IsKindText ls z l m) (sym p) b))

moved : (ls : List Lexeme) (w : Bool) (i j k : ℕ) (ns ms : List ℕ) → j ≡ k → AreNames ls w i j ns → AreNames ls w i k ms → ns ≡ ms
moved ls w i j k ns ms p a b = names_same ls w i k ns ms (subst (λ z. AreNames ls w i z ns) p a) b

dot_no_comma : (ls : List Lexeme) (i : ℕ) → class_at ls i ≡ class.Dot → class_at ls i ≢ class.Comma
dot_no_comma ls i e = apart e (λ z. cc)

pub one_body : (ls : List Lexeme) (k : Keyword) (i e : ℕ) (l m : Line) → IsBody ls k i e l → IsBody ls k i e m → l ≡ m
one_body ls k i e l m (kinds _ j p _ n ns a d z) (kinds _ j' p' _ n' ms a' d' z') =
    let q = names_end ls false i j j' ns ms a (no_comma_kind ls j p n d) a' (no_comma_kind ls j' p' n' d') in
    (λ x. KindLine (moved ls false i j j' ns ms q a a' x) (kinds_same ls j j' p p' e n n' q d z d' z' x))
one_body ls k i e l m (local_kinds _ j _ ns a z) (local_kinds _ j' _ ms a' z') =
    let q = names_end ls false i j j' ns ms a (dot_no_comma ls j z.0) a' (dot_no_comma ls j' z'.0) in
    ap (λ x. LocalKindLine x None) (moved ls false i j j' ns ms q a a')
one_body ls k i e l m (local_kinds _ j _ ns a z) (local_kinds_of _ j' p' _ n' ms a' d' z') =
    let q = names_end ls false i j j' ns ms a (dot_no_comma ls j z.0) a' (no_comma_kind ls j' p' n' d') in
    absurd (no_dot_kind ls j' p' n' d' (ap (class_at ls) (sym q) ∙ z.0))
one_body ls k i e l m (local_kinds_of _ j p _ n ns a d z) (local_kinds _ j' _ ms a' z') =
    let q = names_end ls false i j j' ns ms a (no_comma_kind ls j p n d) a' (dot_no_comma ls j' z'.0) in
    absurd (no_dot_kind ls j p n d (ap (class_at ls) q ∙ z'.0))
one_body ls k i e l m (local_kinds_of _ j p _ n ns a d z) (local_kinds_of _ j' p' _ n' ms a' d' z') =
    let q = names_end ls false i j j' ns ms a (no_comma_kind ls j p n d) a' (no_comma_kind ls j' p' n' d') in
    (λ x. LocalKindLine (moved ls false i j j' ns ms q a a' x) (Some (kinds_same ls j j' p p' e n n' q d z d' z' x)))
one_body ls k i e l m (constants _ j p _ ns t a d z) (constants _ j' p' _ ms u a' d' z') =
    let q = names_end ls false i j j' ns ms a (no_comma_type ls j p t d) a' (no_comma_type ls j' p' u d') in
    (λ x. ConstantLine (moved ls false i j j' ns ms q a a' x) (types_same ls j j' p p' e t u q d z d' z' x))
one_body ls k i e l m (locals _ j _ ns a z) (locals _ j' _ ms a' z') =
    let q = names_end ls false i j j' ns ms a (dot_no_comma ls j z.0) a' (dot_no_comma ls j' z'.0) in
    ap (λ x. LocalLine x None) (moved ls false i j j' ns ms q a a')
one_body ls k i e l m (locals _ j _ ns a z) (locals_of _ j' p' _ ms u a' d' z') =
    let q = names_end ls false i j j' ns ms a (dot_no_comma ls j z.0) a' (no_comma_type ls j' p' u d') in
    absurd (no_dot_type ls j' p' u d' (ap (class_at ls) (sym q) ∙ z.0))
one_body ls k i e l m (locals_of _ j p _ ns t a d z) (locals _ j' _ ms a' z') =
    let q = names_end ls false i j j' ns ms a (no_comma_type ls j p t d) a' (dot_no_comma ls j' z'.0) in
    absurd (no_dot_type ls j p t d (ap (class_at ls) q ∙ z'.0))
one_body ls k i e l m (locals_of _ j p _ ns t a d z) (locals_of _ j' p' _ ms u a' d' z') =
    let q = names_end ls false i j j' ns ms a (no_comma_type ls j p t d) a' (no_comma_type ls j' p' u d') in
    (λ x. LocalLine (moved ls false i j j' ns ms q a a' x) (Some (types_same ls j j' p p' e t u q d z d' z' x)))
one_body ls k i e l m (abbreviation _ j p _ n ns t a d z) (abbreviation _ j' p' _ n' ms u a' d' z') =
    let h = heads_same ls i j j' n n' ns ms a a' in
    (λ x. AbbreviationLine (h.name x) (h.all x) (types_same ls j j' p p' e t u h.ends d z d' z' x))
one_body ls k i e l m (accumulate _ j _ ns a z) (accumulate _ j' _ ms a' z') = ap AccumulateLine (moved ls true i j j' ns ms (names_end ls true i j j' ns ms a (dot_no_comma ls j z.0) a' (dot_no_comma ls j' z'.0)) a a')
one_body ls k i e l m (accum_sig _ j _ ns a z) (accum_sig _ j' _ ms a' z') = ap AccumSigLine (moved ls true i j j' ns ms (names_end ls true i j j' ns ms a (dot_no_comma ls j z.0) a' (dot_no_comma ls j' z'.0)) a a')
one_body ls k i e l m (fixities _ j _ n f ns a h z) (fixities _ j' _ n' _ ms a' h' z') =
    let q = names_end ls false i j j' ns ms a (no_comma_number ls j n h) a' (no_comma_number ls j' n' h') in
    (λ x. FixityLine (moved ls false i j j' ns ms q a a' x) f (number_same ls j' n n' (subst (λ v. HasNumber ls v n) q h) h' x))

-- one line begins at a token
pub record SameLine (j k : ℕ) (l m : Line) : Type 0 where
  pub ends : j ≡ k
  pub line : l ≡ m

pub same_line : (ls : List Lexeme) (i j k : ℕ) (l m : Line) → IsLine ls i j l → IsLine ls i k m → SameLine j k l m
same_line ls i j k l m a b =
    let e = one_end ls Rattle.lp_syntax.specs.LineMachine.AtStart i j k (line_runs_of ls i j l a) (line_runs_of ls i k m b) in
    let w : b.word ≡ a.word = same_word (sym b.there ∙ a.there) in
    record { ends = e; line = one_body ls a.word (i + 1) j l m a.body (subst (λ z. IsBody ls a.word (i + 1) z m) (sym e) (subst (λ z. IsBody ls z (i + 1) k m) w b.body)) }
  where
    same_word : {k m : Keyword} → class.Keyword k ≡ class.Keyword m → k ≡ m
    same_word e = cc

same_lines : (ls : List Lexeme) (i j i' j' : ℕ) (ds es : List Line) → i ≡ i' → j ≡ j' → AreLines ls i j ds → AreLines ls i' j' es → ds ≡ es
same_lines ls i j i' j' ds es p q (no_line _) (no_line _) = refl
same_lines ls i j i' j' ds es p q (no_line _) (one_line _ k _ d rest h y t) = let u = lines_grow ls k j' rest t in let z = line_longer ls i' k (line_runs_of ls i' k d h) in absurd (omega (arith, u, z, p, q))
same_lines ls i j i' j' ds es p q (one_line _ k _ d rest h y t) (no_line _) = let u = lines_grow ls k j rest t in let z = line_longer ls i k (line_runs_of ls i k d h) in absurd (omega (arith, u, z, p, q))
same_lines ls i j i' j' ds es p q (one_line _ k _ d rest h y t) (one_line _ k' _ d' rest' h' y' t') =
    let s = same_line ls i k k' d d' h (subst (λ z. IsLine ls z k' d') (sym p) h') in
    cons_equal _ _ _ _ s.line (same_lines ls k j k' j' rest rest' s.ends q t t')

pub one_signature : (ls : List Lexeme) (ds es : List Line) → IsSignature ls ds → IsSignature ls es → ds ≡ es
one_signature ls ds es a b = same_lines ls 3 (length ls) 3 (length ls) ds es refl refl a.lines b.lines
