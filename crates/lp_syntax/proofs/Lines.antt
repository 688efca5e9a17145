-- What the grammar of declarations gives, their reader reads.
use Rattle.std.proofs.Common.{◌≡◌, ℕ, suc, ◌+◌, ◌<◌, ◌≤◌, true, List, [], ◌∷◌, refl, ap, ◌∙◌, arith}
use Rattle.lp_syntax.specs.declared.class.Class.{Class}
use Rattle.lp_syntax.specs.declared.class.Keyword.{Keyword}
use Rattle.lp_syntax.specs.declared.class.Keyword.TheVariants as keyword
use Rattle.lp_syntax.specs.declared.class.Class.TheVariants as class
use Rattle.lp_syntax.specs.Tokens.{Lexeme, class_at}
use Rattle.lp_syntax.specs.Types.{TypeTree, Whole, IsType}
use Rattle.lp_syntax.specs.TypeMachine.{TypeState, Ends, type_step, left, Runs, stays as type_stays, goes as type_goes}
use Rattle.lp_syntax.specs.Declarations.{WithCommas, none_listed, one_listed, AreNames, KindFront, no_argument, argument, IsKindText, Parameters, no_parameter, parameter, IsHeadAt, bare, bracketed, EndsAt, Line, IsBody, kinds, local_kinds, local_kinds_of, constants, locals, locals_of, abbreviation, accumulate, accum_sig, fixities}
use Rattle.lp_syntax.specs.LineMachine.{LineState, AtStart, AtName, BehindName, AtKind, BehindKind, AtHead, AtHeadName, AtParameter, InType, AtDot, AtEnd, lists_words, takes_kind, takes_type, may_end, no_type, LineStep, start_list, start_head, name, comma, list_kind, list_type, list_number, list_dot, arrow, kind, kind_dot, bare_head, head_bracket, head_name, one_parameter, head_closed, in_type, type_dot, full_stop, LineRuns, stays, goes}
use Rattle.lp_syntax.specs.TypeMachine.{Wait, AtArrow}
use Rattle.lp_syntax.proofs.TypeReading.{Above, behind_word, behind_type, below_arrow, type_complete}
use Rattle.lp_syntax.proofs.TypeFaults.{type_up}

pub line_on : (ls : List Lexeme) (s r q : LineState) (i j k : ℕ) → LineRuns ls s i r j → LineRuns ls r j q k → LineRuns ls s i q k
line_on ls s r q i j k (stays _ _) e = e
line_on ls s r q i j k (goes _ a _ _ m _ h l d) e = goes s a q i m k h l (line_on ls a r q m j k d e)

pub one_step : (ls : List Lexeme) (s r : LineState) (i k : ℕ) → LineStep (class_at ls i) s r → k ≡ i + 1 → LineRuns ls s i r k
one_step ls s r i k h l = goes s r r i k k h l (stays r k)

pub line_up : (ls : List Lexeme) (s r : LineState) (i j : ℕ) → LineRuns ls s i r j → i ≤ j
line_up ls s r i j (stays _ _) = omega arith
line_up ls s r i j (goes _ q _ _ m _ e l d) = let z = line_up ls q r m j d in omega (arith, z, l)

pub commas_run : (ls : List Lexeme) (k : Keyword) (i j : ℕ) (ns : List ℕ) → WithCommas ls (lists_words k) i j ns → LineRuns ls (AtName k) i (AtName k) j
commas_run ls k i j ns none_listed = stays (AtName k) i
commas_run ls k i j ns (one_listed m _ ms _ d f c e a) = line_on ls (AtName k) (AtName k) (AtName k) i m j (commas_run ls k i m ms d) (goes (AtName k) (BehindName k) (AtName k) m (m + 1) j (name k f) refl (one_step ls (BehindName k) (AtName k) (m + 1) j (comma k c) e))

pub names_run : (ls : List Lexeme) (k : Keyword) (i j : ℕ) (ns : List ℕ) → AreNames ls (lists_words k) i j ns → LineRuns ls (AtName k) i (BehindName k) j
names_run ls k i j ns n = line_on ls (AtName k) (AtName k) (BehindName k) i n.final j (commas_run ls k i n.final n.front n.before) (one_step ls (AtName k) (BehindName k) n.final j (name k n.fits) n.end)

pub front_runs : (ls : List Lexeme) (i j n : ℕ) → KindFront ls i j n → LineRuns ls AtKind i AtKind j
front_runs ls i j n no_argument = stays AtKind i
front_runs ls i j n (argument k _ m _ d t a e w) = line_on ls AtKind AtKind AtKind i k j (front_runs ls i k m d) (goes AtKind BehindKind AtKind k (k + 1) j (kind t) refl (one_step ls BehindKind AtKind (k + 1) j (arrow a) e))

pub kind_runs : (ls : List Lexeme) (i j n : ℕ) → IsKindText ls i j n → LineRuns ls AtKind i BehindKind j
kind_runs ls i j n k = line_on ls AtKind AtKind BehindKind i k.final j (front_runs ls i k.final n k.front) (one_step ls AtKind BehindKind k.final j (kind k.target) k.end)

pub parameters_run : (ls : List Lexeme) (i j : ℕ) (ns : List ℕ) → Parameters ls i j ns → LineRuns ls AtParameter i AtParameter j
parameters_run ls i j ns no_parameter = stays AtParameter i
parameters_run ls i j ns (parameter k _ ms _ d u e a) = line_on ls AtParameter AtParameter AtParameter i k j (parameters_run ls i k ms d) (one_step ls AtParameter AtParameter k j (one_parameter u) e)

pub head_runs : (ls : List Lexeme) (i j n : ℕ) (ns : List ℕ) → IsHeadAt ls i j n ns → LineRuns ls AtHead i (InType no_type) j
head_runs ls i j n ns (bare _ _ _ _ c e s a) = one_step ls AtHead (InType no_type) i j (bare_head c) e
head_runs ls i j n ns (bracketed _ k _ _ _ o c s p d e) =
    goes AtHead AtHeadName (InType no_type) i (i + 1) j (head_bracket o) refl
    (goes AtHeadName AtParameter (InType no_type) (i + 1) (i + 1 + 1) j (head_name c) refl
    (line_on ls AtParameter AtParameter (InType no_type) (i + 1 + 1) k j (parameters_run ls (i + 1 + 1) k ns p) (one_step ls AtParameter (InType no_type) k j (head_closed d) e)))

pub type_line : (ls : List Lexeme) (s r : TypeState) (i j : ℕ) → Runs ls s i r j → LineRuns ls (InType s) i (InType r) j
type_line ls s r i j (type_stays _ _) = stays (InType s) i
type_line ls s r i j (type_goes _ q _ _ _ e d) = goes (InType s) (InType q) (InType r) i (suc i) j (in_type s q e) (omega arith) (type_line ls q r (suc i) j d)

pub alike_runs : (ls : List Lexeme) (s e r : LineState) (i j : ℕ) → ((q : LineState) → LineStep (class_at ls i) s q → LineStep (class_at ls i) e q) → i < j → LineRuns ls s i r j → LineRuns ls e i r j
alike_runs ls s e r i j a l (stays _ _) = absurd (omega (arith, l))
alike_runs ls s e r i j a l (goes _ q _ _ m _ h p d) = goes e q r i m j (a q h) p d

-- a type has a token
pub no_end : (c : Class) → type_step no_type c ≡ Ends → ⊥
no_end class.Lower e = cc
no_end class.Upper e = cc
no_end class.Symbol e = cc
no_end class.Comma e = cc
no_end class.Colon e = cc
no_end class.Arrow e = cc
no_end (class.Number n) e = cc
no_end class.Text e = cc
no_end class.Open e = cc
no_end class.Close e = cc
no_end class.OpenList e = cc
no_end class.CloseList e = cc
no_end class.Bar e = cc
no_end class.Dot e = cc
no_end class.Backslash e = cc
no_end (class.Keyword k) e = cc
no_end class.Unsupported e = cc
no_end class.End e = cc

-- a type behind its list, up to its full stop
type_to : (c : Class) (k : Keyword) → takes_type k ≡ true → (r : LineState) → LineStep c (InType no_type) r → LineStep c (BehindName k) r
type_to c k t r (in_type _ q e) = list_type k q t e
type_to c k t r (type_dot _ e d) = absurd (no_end c e)

kind_to : (c : Class) (k : Keyword) → takes_kind k ≡ true → (r : LineState) → LineStep c AtKind r → LineStep c (BehindName k) r
kind_to c k t r (kind e) = list_kind k t e

pub dot_left : (ws : List Wait) (s : TypeState) → Above ws s → type_step s class.Dot ≡ left ws
dot_left ws s (behind_word _) = refl
dot_left ws s (behind_type _) = refl
dot_left ws s (below_arrow _ _ a) = dot_left (AtArrow ∷ ws) s a

pub type_runs : (ls : List Lexeme) (i j e : ℕ) (t : TypeTree) → IsType ls Whole i j t → EndsAt ls j e → LineRuns ls (InType no_type) i AtEnd e
type_runs ls i j e t d z =
    let r = type_complete ls Whole i j t d [] in
    line_on ls (InType no_type) (InType r.0) AtEnd i j e (type_line ls no_type r.0 i j r.2) (one_step ls (InType r.0) AtEnd j e (type_dot r.0 (ap (type_step r.0) z.0 ∙ dot_left [] r.0 r.1) z.0) z.1)

list_type_runs : (ls : List Lexeme) (k : Keyword) (i j e : ℕ) (t : TypeTree) → takes_type k ≡ true → IsType ls Whole i j t → EndsAt ls j e → LineRuns ls (BehindName k) i AtEnd e
list_type_runs ls k i j e t y d z = let u = type_up ls Whole i j t d in let v = z.1 in alike_runs ls (InType no_type) (BehindName k) AtEnd i e (type_to (class_at ls i) k y) (omega (arith, u, v)) (type_runs ls i j e t d z)

list_kind_runs : (ls : List Lexeme) (k : Keyword) (i j e n : ℕ) → takes_kind k ≡ true → IsKindText ls i j n → EndsAt ls j e → LineRuns ls (BehindName k) i AtEnd e
list_kind_runs ls k i j e n y d z =
    let r = kind_runs ls i j n d in
    let u = line_up ls AtKind BehindKind i j r in
    let v = z.1 in
    alike_runs ls AtKind (BehindName k) AtEnd i e (kind_to (class_at ls i) k y) (omega (arith, u, v)) (line_on ls AtKind BehindKind AtEnd i j e r (one_step ls BehindKind AtEnd j e (kind_dot z.0) z.1))

abbrev pub first_state : Keyword → LineState
first_state keyword.Typeabbrev = AtHead
first_state k = AtName k

with_list : (ls : List Lexeme) (k : Keyword) (i j e : ℕ) (ns : List ℕ) → AreNames ls (lists_words k) i j ns → LineRuns ls (BehindName k) j AtEnd e → LineRuns ls (AtName k) i AtEnd e
with_list ls k i j e ns n r = line_on ls (AtName k) (BehindName k) AtEnd i j e (names_run ls k i j ns n) r

list_ends : (ls : List Lexeme) (k : Keyword) (j e : ℕ) → may_end k ≡ true → EndsAt ls j e → LineRuns ls (BehindName k) j AtEnd e
list_ends ls k j e y z = one_step ls (BehindName k) AtEnd j e (list_dot k y z.0) z.1

pub body_runs : (ls : List Lexeme) (k : Keyword) (i e : ℕ) (l : Line) → IsBody ls k i e l → LineRuns ls (first_state k) i AtEnd e
body_runs ls k i e l (kinds _ j m _ n ns a d z) = with_list ls keyword.Kind i j e ns a (list_kind_runs ls keyword.Kind j m e n refl d z)
body_runs ls k i e l (local_kinds _ j _ ns a z) = with_list ls keyword.Localkind i j e ns a (list_ends ls keyword.Localkind j e refl z)
body_runs ls k i e l (local_kinds_of _ j m _ n ns a d z) = with_list ls keyword.Localkind i j e ns a (list_kind_runs ls keyword.Localkind j m e n refl d z)
body_runs ls k i e l (constants _ j m _ ns t a d z) = with_list ls keyword.Type i j e ns a (list_type_runs ls keyword.Type j m e t refl d z)
body_runs ls k i e l (locals _ j _ ns a z) = with_list ls keyword.Local i j e ns a (list_ends ls keyword.Local j e refl z)
body_runs ls k i e l (locals_of _ j m _ ns t a d z) = with_list ls keyword.Local i j e ns a (list_type_runs ls keyword.Local j m e t refl d z)
body_runs ls k i e l (abbreviation _ j m _ n ns t h d z) = line_on ls AtHead (InType no_type) AtEnd i j e (head_runs ls i j n ns h) (type_runs ls j m e t d z)
body_runs ls k i e l (accumulate _ j _ ns a z) = with_list ls keyword.Accumulate i j e ns a (list_ends ls keyword.Accumulate j e refl z)
body_runs ls k i e l (accum_sig _ j _ ns a z) = with_list ls keyword.AccumSig i j e ns a (list_ends ls keyword.AccumSig j e refl z)
body_runs ls k i e l (fixities _ j _ n f ns a h z) = with_list ls (keyword.Fixity f) i j e ns a (goes (BehindName (keyword.Fixity f)) AtDot AtEnd j (j + 1) e (list_number f h.written h.there) refl (one_step ls AtDot AtEnd (j + 1) e (full_stop z.0) z.1))

pub body_starts : (ls : List Lexeme) (k : Keyword) (i e : ℕ) (l : Line) (c : Class) → IsBody ls k i e l → c ≡ class.Keyword k → LineStep c AtStart (first_state k)
body_starts ls k i e l c (kinds _ j m _ n ns a d z) h = start_list keyword.Kind refl h
body_starts ls k i e l c (local_kinds _ j _ ns a z) h = start_list keyword.Localkind refl h
body_starts ls k i e l c (local_kinds_of _ j m _ n ns a d z) h = start_list keyword.Localkind refl h
body_starts ls k i e l c (constants _ j m _ ns t a d z) h = start_list keyword.Type refl h
body_starts ls k i e l c (locals _ j _ ns a z) h = start_list keyword.Local refl h
body_starts ls k i e l c (locals_of _ j m _ ns t a d z) h = start_list keyword.Local refl h
body_starts ls k i e l c (abbreviation _ j m _ n ns t a d z) h = start_head h
body_starts ls k i e l c (accumulate _ j _ ns a z) h = start_list keyword.Accumulate refl h
body_starts ls k i e l c (accum_sig _ j _ ns a z) h = start_list keyword.AccumSig refl h
body_starts ls k i e l c (fixities _ j _ n f ns a y z) h = start_list (keyword.Fixity f) refl h
