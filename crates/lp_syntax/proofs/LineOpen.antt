-- The brackets that are open where the reader of declarations is.
use Rattle.std.proofs.Common.{◌≡◌, ℕ, suc, ◌+◌, ◌-◌, ◌≤◌, Bool, true, false, List, [], ◌∷◌, length, take, refl, sym, ap, ◌∙◌, subst, arith, length-append}
use Rattle.std.proofs.lemmas.List.{nil_from_length}
use Rattle.lp_base.specs.declared.place.Spot.{Spot}
use Rattle.lp_syntax.specs.declared.class.Class.{Class}
use Rattle.lp_syntax.specs.declared.class.Class.TheVariants as class
use Rattle.lp_syntax.specs.declared.fault.SyntaxFault.{SyntaxFault}
use Rattle.lp_syntax.specs.Tokens.{Lexeme, class_at, open_behind, open_on, open_brackets}
use Rattle.lp_syntax.specs.Faults.{refused, innermost}
use Rattle.lp_syntax.specs.TypeMachine.{TypeState, Goes, type_step}
use Rattle.lp_syntax.specs.Declarations.{is_listed}
use Rattle.lp_syntax.specs.LineMachine.{LineState, AtHeadName, AtParameter, InType, lists_words, no_type, LineStep, header, header_word, header_dot, start_list, start_head, name, comma, list_kind, list_type, list_number, list_dot, arrow, kind, kind_dot, bare_head, head_bracket, head_name, one_parameter, head_closed, in_type, type_dot, full_stop, LineRuns, stays, goes, LineStops, StopsIn}
use Rattle.lp_syntax.proofs.OpenBrackets.{brackets, KeepsOpen, step_open, on_split, ends_none}
use Rattle.lp_syntax.proofs.Lines.{line_up, line_on}

-- how many brackets are open
abbrev pub opened : LineState → ℕ
opened AtHeadName = 1
opened AtParameter = 1
opened (InType s) = brackets s.waits
opened _ = 0

listed_closed : (i : ℕ) (w : Bool) (c : Class) (bs : List ℕ) → is_listed w c ≡ true → open_behind i c bs ≡ bs
listed_closed i w class.Lower bs e = refl
listed_closed i w class.Upper bs e = refl
listed_closed i w class.Symbol bs e = refl
listed_closed i w class.Comma bs e = refl
listed_closed i w class.Colon bs e = refl
listed_closed i w class.Arrow bs e = refl
listed_closed i w (class.Number n) bs e = refl
listed_closed i w class.Text bs e = refl
listed_closed i true class.Open bs e = absurd (cc)
listed_closed i false class.Open bs e = absurd (cc)
listed_closed i true class.Close bs e = absurd (cc)
listed_closed i false class.Close bs e = absurd (cc)
listed_closed i true class.OpenList bs e = absurd (cc)
listed_closed i false class.OpenList bs e = absurd (cc)
listed_closed i true class.CloseList bs e = absurd (cc)
listed_closed i false class.CloseList bs e = absurd (cc)
listed_closed i w class.Bar bs e = refl
listed_closed i w class.Dot bs e = refl
listed_closed i w class.Backslash bs e = refl
listed_closed i w (class.Keyword k) bs e = refl
listed_closed i w class.Unsupported bs e = refl
listed_closed i w class.End bs e = refl

-- by the token that is there
by_class : (i : ℕ) (c d : Class) (bs : List ℕ) (n : ℕ) → c ≡ d → length (open_behind i d bs) ≡ n → length (open_behind i c bs) ≡ n
by_class i c d bs n e h = ap (λ k. length (open_behind i k bs)) e ∙ h

type_counts : (i : ℕ) (c : Class) (s q : TypeState) (bs : List ℕ) → length bs ≡ brackets s.waits → type_step s c ≡ Goes q → length (open_behind i c bs) ≡ brackets q.waits
type_counts i c s q bs e h = (subst (KeepsOpen i c [] bs) h (step_open i s.need c [] bs s.waits e)).1

pub step_counts : (i : ℕ) (c : Class) (s r : LineState) (bs : List ℕ) → length bs ≡ opened s → LineStep c s r → length (open_behind i c bs) ≡ opened r
step_counts i c s r bs e (header k h) = by_class i c _ bs 0 h e
step_counts i c s r bs e (header_word h) = ap length (listed_closed i true c bs h) ∙ e
step_counts i c s r bs e (header_dot h) = by_class i c _ bs 0 h e
step_counts i c s r bs e (start_list k y h) = by_class i c _ bs 0 h e
step_counts i c s r bs e (start_head h) = by_class i c _ bs 0 h e
step_counts i c s r bs e (name k h) = ap length (listed_closed i (lists_words k) c bs h) ∙ e
step_counts i c s r bs e (comma k h) = by_class i c _ bs 0 h e
step_counts i c s r bs e (list_kind k t h) = by_class i c _ bs 0 h e
step_counts i c s r bs e (list_type k q t h) = type_counts i c no_type q bs e h
step_counts i c s r bs e (list_number f n h) = by_class i c _ bs 0 h e
step_counts i c s r bs e (list_dot k t h) = by_class i c _ bs 0 h e
step_counts i c s r bs e (arrow h) = by_class i c _ bs 0 h e
step_counts i c s r bs e (kind h) = by_class i c _ bs 0 h e
step_counts i c s r bs e (kind_dot h) = by_class i c _ bs 0 h e
step_counts i c s r bs e (bare_head h) = by_class i c _ bs 0 h e
step_counts i c s r bs e (head_bracket h) = by_class i c class.Open bs 1 h (let l = length-append bs (i ∷ []) in omega (arith, l, e))
step_counts i c s r bs e (head_name h) = by_class i c _ bs 1 h e
step_counts i c s r bs e (one_parameter h) = by_class i c _ bs 1 h e
step_counts i c s r bs e (head_closed h) = by_class i c class.Close bs 0 h (one_less bs e)
  where
    one_less : (bs : List ℕ) → length bs ≡ 1 → length (take (length bs - 1) bs) ≡ 0
    one_less [] z = absurd (cc)
    one_less (b ∷ []) z = refl
    one_less (b ∷ a ∷ as') z = absurd (omega (arith, z))
step_counts i c s r bs e (in_type x q h) = type_counts i c x q bs e h
step_counts i c s r bs e (type_dot x h d) = by_class i c class.Dot bs 0 d (e ∙ ends_none x.need c x.waits h)
step_counts i c s r bs e (full_stop h) = by_class i c _ bs 0 h e

pub line_counts : (ls : List Lexeme) (s r : LineState) (i j : ℕ) → LineRuns ls s i r j → (bs : List ℕ) → length bs ≡ opened s → length (open_on ls bs i (j - i)) ≡ opened r
unfolding open_on
line_counts ls s r i j (stays _ _) bs e = let z : i - i ≡ 0 = omega arith in ap (λ n. length (open_on ls bs i n)) z ∙ e
line_counts ls s r i j (goes _ q _ _ k _ h p d) bs e =
    let u = line_up ls q r k j d in
    let z : j - i ≡ suc (j - k) = omega (arith, u, p) in
    let y : suc i ≡ k = omega (arith, p) in
    ap (λ n. length (open_on ls bs i n)) z ∙ ap (λ m. length (open_on ls (open_behind i (class_at ls i) bs) m (j - k))) y ∙ line_counts ls q r k j d (open_behind i (class_at ls i) bs) (step_counts i (class_at ls i) s q bs e h)

-- behind tokens that leave nothing open
pub open_from : (ls : List Lexeme) (i m n : ℕ) → i ≤ m → m ≤ n → open_brackets ls i m ≡ [] → open_brackets ls i n ≡ open_brackets ls m n
open_from ls i m n l h e =
    let z : i + (m - i) ≡ m = omega (arith, l) in
    on_split ls [] i (m - i) (n - m) (n - i) (omega (arith, l, h)) ∙ (λ k. open_on ls (e k) (z k) (n - m))

pub line_closed : (ls : List Lexeme) (s r : LineState) (i j : ℕ) → LineRuns ls s i r j → opened s ≡ 0 → opened r ≡ 0 → open_brackets ls i j ≡ []
line_closed ls s r i j d e f = nil_from_length (open_brackets ls i j) (line_counts ls s r i j d [] (sym e) ∙ f)

pub stops_up : (ls : List Lexeme) (s : LineState) (i n : ℕ) → LineStops ls s i n → i ≤ n
stops_up ls s i n h = line_up ls s h.state i n h.runs

-- a fault behind what was read
pub stops_behind : (spot : ℕ → Spot) (ls : List Lexeme) (s r : LineState) (i m : ℕ) (f : SyntaxFault) → LineRuns ls s i r m → opened s ≡ 0 → opened r ≡ 0 → StopsIn spot ls r m f → StopsIn spot ls s i f
stops_behind spot ls s r i m f d e o h =
    let t = h.there in
    record {
      number = h.number;
      there = record { state = t.state; runs = line_on ls s r t.state i m h.number d t.runs; unfinished = t.unfinished; stops = t.stops; high = t.high };
      kind = h.kind ∙ ap (λ bs. refused spot h.number (innermost bs) (class_at ls h.number)) (sym (open_from ls i m h.number (line_up ls s r i m d) (stops_up ls r m h.number t) (line_closed ls s r i m d e o)));
    }
