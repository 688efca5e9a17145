-- The reader of declarations does one thing at each token, and each of its states can be brought to an end.
use Rattle.std.proofs.Common.{◌≡◌, ℕ, ◌<◌, ◌≤◌, true, false, List, [], refl, sym, ap, ◌∙◌, subst, arith, codes}
use Rattle.std.specs.Prelude.{Some}
use Rattle.lp_lexer.specs.declared.token.TokenKind.{TokenKind}
use Rattle.lp_lexer.specs.declared.token.TokenKind.TheVariants as kind
use Rattle.lp_syntax.specs.declared.class.Class.{Class}
use Rattle.lp_syntax.specs.declared.class.Keyword.{Keyword}
use Rattle.lp_syntax.specs.declared.class.Keyword.TheVariants as keyword
use Rattle.lp_syntax.specs.declared.class.Class.TheVariants as class
use Rattle.lp_syntax.specs.Classes.{lower}
use Rattle.lp_syntax.specs.Tokens.{Lexeme, class_in, class_at, Agree}
use Rattle.lp_syntax.specs.TypeMachine.{TypeState, TypeMove, Goes, Ends, Stops, type_step}
use Rattle.lp_syntax.specs.LineMachine.{LineState, AtName, InType, AtEnd, lists, no_type, LineStep, header, header_word, header_dot, start_list, start_head, name, comma, list_kind, list_type, list_number, list_dot, arrow, kind as one_kind, kind_dot, bare_head, head_bracket, head_name, one_parameter, head_closed, in_type, type_dot, full_stop, LineRuns, stays, goes, IsUnfinished}
use Rattle.lp_syntax.proofs.Tokens.{class_same}
use Rattle.lp_syntax.proofs.TypeFaults.{Compared, less, same, more, compared}
use Rattle.lp_syntax.proofs.Lines.{line_up}

pub same_keyword : {k m : Keyword} → class.Keyword k ≡ class.Keyword m → k ≡ m
same_keyword e = cc

same_goes : {q r : TypeState} → Goes q ≡ Goes r → q ≡ r
same_goes e = cc

two_classes : {c a b : Class} → c ≡ a → c ≡ b → a ≡ b
two_classes e f = sym e ∙ f

no_abbreviation : (k : Keyword) → lists k ≡ true → class.Keyword k ≡ class.Keyword keyword.Typeabbrev → ⊥
no_abbreviation k y e = let f : lists k ≡ lists keyword.Typeabbrev = ap lists (same_keyword e) in let g : true ≡ false = sym y ∙ f in cc

-- where a type begins
no_first : {c d : Class} {s : TypeState} → type_step no_type c ≡ Goes s → c ≡ d → type_step no_type d ≡ Stops → ⊥
no_first {c} {d} {s} t e f = let g : Goes s ≡ Stops = sym t ∙ ap (type_step no_type) e ∙ f in cc

goes_ends : {m : TypeMove} {s : TypeState} → m ≡ Goes s → m ≡ Ends → ⊥
goes_ends {m} {s} e f = let g : Goes s ≡ Ends = sym e ∙ f in cc

pub step_same : (c : Class) (s r q : LineState) → LineStep c s r → LineStep c s q → r ≡ q
step_same c s r q (header k e) (header _ f) = refl
step_same c s r q (header_word e) (header_word f) = refl
step_same c s r q (header_dot e) (header_dot f) = refl
step_same c s r q (start_list k y e) (start_list m z f) = ap AtName (same_keyword (two_classes e f))
step_same c s r q (start_list k y e) (start_head f) = absurd (no_abbreviation k y (two_classes e f))
step_same c s r q (start_head e) (start_list m z f) = absurd (no_abbreviation m z (two_classes f e))
step_same c s r q (start_head e) (start_head f) = refl
step_same c s r q (name k e) (name _ f) = refl
step_same c s r q (comma k e) (comma _ f) = refl
step_same c s r q (comma k e) (list_kind _ t f) = absurd (let g = two_classes e f in cc)
step_same c s r q (comma k e) (list_type _ x t f) = absurd (no_first f e refl)
step_same c s r q (comma _ e) (list_number g n f) = absurd (let z = two_classes e f in cc)
step_same c s r q (comma k e) (list_dot _ t f) = absurd (let g = two_classes e f in cc)
step_same c s r q (list_kind k t e) (comma _ f) = absurd (let g = two_classes e f in cc)
step_same c s r q (list_kind k t e) (list_kind _ u f) = refl
step_same c s r q (list_kind k t e) (list_type _ x u f) = absurd (no_first f e refl)
step_same c s r q (list_kind _ t e) (list_number g n f) = absurd (let z = two_classes e f in cc)
step_same c s r q (list_kind k t e) (list_dot _ u f) = absurd (let g = two_classes e f in cc)
step_same c s r q (list_type k x t e) (comma _ f) = absurd (no_first e f refl)
step_same c s r q (list_type k x t e) (list_kind _ u f) = absurd (no_first e f refl)
step_same c s r q (list_type k x t e) (list_type _ y u f) = ap InType (same_goes (sym e ∙ f))
step_same c s r q (list_type _ x t e) (list_number g n f) = absurd (no_first e f refl)
step_same c s r q (list_type k x t e) (list_dot _ u f) = absurd (no_first e f refl)
step_same c s r q (list_number f n e) (comma _ h) = absurd (let g = two_classes e h in cc)
step_same c s r q (list_number f n e) (list_kind _ t h) = absurd (let g = two_classes e h in cc)
step_same c s r q (list_number f n e) (list_type _ x t h) = absurd (no_first h e refl)
step_same c s r q (list_number f n e) (list_number _ m h) = refl
step_same c s r q (list_number f n e) (list_dot _ t h) = absurd (let g = two_classes e h in cc)
step_same c s r q (list_dot k t e) (comma _ f) = absurd (let g = two_classes e f in cc)
step_same c s r q (list_dot k t e) (list_kind _ u f) = absurd (let g = two_classes e f in cc)
step_same c s r q (list_dot k t e) (list_type _ x u f) = absurd (no_first f e refl)
step_same c s r q (list_dot _ t e) (list_number g n f) = absurd (let z = two_classes e f in cc)
step_same c s r q (list_dot k t e) (list_dot _ u f) = refl
step_same c s r q (arrow e) (arrow f) = refl
step_same c s r q (arrow e) (kind_dot f) = absurd (let g = two_classes e f in cc)
step_same c s r q (kind_dot e) (arrow f) = absurd (let g = two_classes e f in cc)
step_same c s r q (kind_dot e) (kind_dot f) = refl
step_same c s r q (one_kind e) (one_kind f) = refl
step_same c s r q (bare_head e) (bare_head f) = refl
step_same c s r q (bare_head e) (head_bracket f) = absurd (let g = two_classes e f in cc)
step_same c s r q (head_bracket e) (bare_head f) = absurd (let g = two_classes e f in cc)
step_same c s r q (head_bracket e) (head_bracket f) = refl
step_same c s r q (head_name e) (head_name f) = refl
step_same c s r q (one_parameter e) (one_parameter f) = refl
step_same c s r q (one_parameter e) (head_closed f) = absurd (let g = two_classes e f in cc)
step_same c s r q (head_closed e) (one_parameter f) = absurd (let g = two_classes e f in cc)
step_same c s r q (head_closed e) (head_closed f) = refl
step_same c s r q (in_type x y e) (in_type _ z f) = ap InType (same_goes (sym e ∙ f))
step_same c s r q (in_type x y e) (type_dot _ f d) = absurd (goes_ends e f)
step_same c s r q (type_dot x e d) (in_type _ z f) = absurd (goes_ends f e)
step_same c s r q (type_dot x e d) (type_dot _ f g) = refl
step_same c s r q (full_stop e) (full_stop f) = refl

-- two runs from one place
pub line_further : (ls : List Lexeme) (s a b : LineState) (i j k : ℕ) → LineRuns ls s i a j → LineRuns ls s i b k → j ≤ k → LineRuns ls a j b k
line_further ls s a b i j k (stays _ _) e l = e
line_further ls s a b i j k (goes _ q _ _ m _ h p d) (stays _ _) l = let z = line_up ls q a m j d in absurd (omega (arith, z, l, p))
line_further ls s a b i j k (goes _ q _ _ m _ h p d) (goes _ r _ _ n _ g o e) l =
    let f : r ≡ q = step_same (class_at ls i) s r q g h in
    line_further ls q a b m j k d (subst (λ z. LineRuns ls q z b k) (o ∙ sym p) (subst (λ z. LineRuns ls z n b k) f e)) l

no_step : (c : Class) (r : LineState) → LineStep c AtEnd r → ⊥
no_step c r e = elim e [ ]

-- where the reader cannot go on it comes to no end
pub never_ends : (ls : List Lexeme) (s r : LineState) (i n j : ℕ) → LineRuns ls s i r n → IsUnfinished r → ((q : LineState) → LineStep (class_at ls n) r q → ⊥) → LineRuns ls s i AtEnd j → ⊥
never_ends ls s r i n j d u h e = go (compared n j)
  where
    far : (x : LineState) (a b : ℕ) → LineRuns ls x a AtEnd b → a < b → (q : LineState) × LineStep (class_at ls a) x q
    far x a b (stays _ _) l = absurd (omega (arith, l))
    far x a b (goes _ q _ _ _ _ f p g) l = (q, f)

    from_end : (x : LineState) (a b : ℕ) → LineRuns ls AtEnd a x b → a < b → ⊥
    from_end x a b (stays _ _) l = omega (arith, l)
    from_end x a b (goes _ q _ _ _ _ f p g) l = no_step _ _ f

    there : (x : LineState) (a b : ℕ) → a ≡ b → LineRuns ls AtEnd a x b → IsUnfinished x → ⊥
    there x a b p (stays _ _) v = v
    there x a b p (goes _ q _ _ _ _ f o g) v = no_step _ _ f

    go : Compared n j → ⊥
    go (less l) = let z = far r n j (line_further ls s r AtEnd i n j d e (omega (arith, l))) l in h z.0 z.1
    go (same p) = there r j n (sym p) (line_further ls s AtEnd r i j n e d (omega (arith, p))) u
    go (more l) = from_end r j n (line_further ls s AtEnd r i j n e d (omega (arith, l))) l

-- it comes to one end
pub one_end : (ls : List Lexeme) (s : LineState) (i j k : ℕ) → LineRuns ls s i AtEnd j → LineRuns ls s i AtEnd k → j ≡ k
one_end ls s i j k d e = go (compared j k)
  where
    from_end : (a b : ℕ) → LineRuns ls AtEnd a AtEnd b → a < b → ⊥
    from_end a b (stays _ _) l = omega (arith, l)
    from_end a b (goes _ q _ _ _ _ f p g) l = no_step _ _ f

    go : Compared j k → j ≡ k
    go (less l) = absurd (from_end j k (line_further ls s AtEnd AtEnd i j k d e (omega (arith, l))) l)
    go (same p) = p
    go (more l) = absurd (from_end k j (line_further ls s AtEnd AtEnd i k j e d (omega (arith, l))) l)

pub line_same : (n : ℕ) (ls ms : List Lexeme) → Agree n ls ms → (s r : LineState) (i j : ℕ) → j ≤ n → LineRuns ls s i r j → LineRuns ms s i r j
line_same n ls ms a s r i j l (stays _ _) = stays s i
line_same n ls ms a s r i j l (goes _ q _ _ m _ e p d) =
    let u = line_up ls q r m j d in
    goes s q r i m j (subst (λ c. LineStep c s q) (sym (class_same n i ls ms a (omega (arith, u, l, p)))) e) p (line_same n ls ms a q r m j l d)

-- tokens that bring a sentence to its end
abbrev pub token : TokenKind → Lexeme
token k = record { kind = k; bytes = [] }

abbrev pub word_token : List ℕ → Lexeme
word_token text = record { kind = kind.Lower; bytes = text }

abbrev pub lower_token : Lexeme
lower_token = word_token (codes "a")

abbrev pub dot_token : Lexeme
dot_token = token kind.Dot

abbrev pub upper_token : Lexeme
upper_token = token kind.Upper

abbrev pub type_token : Lexeme
type_token = word_token (codes "type")

pub is_lower_token : class_in (Some lower_token) ≡ class.Lower
unfolding lower
is_lower_token = refl

pub is_type_token : class_in (Some type_token) ≡ class.Keyword keyword.Type
unfolding lower
is_type_token = refl

pub is_kind_token : class_in (Some (word_token (codes "kind"))) ≡ class.Keyword keyword.Kind
unfolding lower
is_kind_token = refl

pub is_sig_token : class_in (Some (word_token (codes "sig"))) ≡ class.Keyword keyword.Sig
unfolding lower
is_sig_token = refl

pub is_module_token : class_in (Some (word_token (codes "module"))) ≡ class.Keyword keyword.Module
unfolding lower
is_module_token = refl
