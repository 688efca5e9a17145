-- Where a type ends and where it stops, whatever follows.
use Rattle.std.proofs.Common.{◌≡◌, ℕ, zero, suc, ◌+◌, ◌<◌, ◌≤◌, List, [], ◌∷◌, length, refl, sym, ap, ◌∙◌, arith}
use Rattle.lp_lexer.specs.declared.token.TokenKind.TheVariants as kind
use Rattle.lp_syntax.specs.declared.class.Class.TheVariants.{Backslash}
use Rattle.lp_syntax.specs.Tokens.{Lexeme, class_at, Agree}
use Rattle.lp_syntax.specs.Types.{TypeTree, Level, Whole, IsType, word, variable, group, head, applied, side_head, side_argument, target, arrow}
use Rattle.lp_syntax.specs.TypeMachine.{Wait, AtArrow, AtGroup, AtArgument, Need, Wants, Applies, Has, TypeState, TypeMove, Goes, Ends, Stops, ts, type_step, Runs, stays, goes, IsHalt}
use Rattle.lp_syntax.proofs.Tokens.{class_same, class_stands, Stands}
use Rattle.lp_syntax.proofs.TypeReading.{runs_up, runs_further, above_close, Above, behind_word, behind_type, below_arrow, above_left, type_complete}

pub type_up : (ls : List Lexeme) (v : Level) (i j : ℕ) (t : TypeTree) → IsType ls v i j t → i < j
type_up ls v i j t (word _ e) = omega arith
type_up ls v i j t (variable _ e) = omega arith
type_up ls v i j t (group _ m u e d f) = let h = type_up ls Whole (suc i) m u d in omega (arith, h)
type_up ls v i j t (head _ e) = omega arith
type_up ls v i j t (applied _ m _ u w d e) = let h = type_up ls _ i m u d in let k = type_up ls _ m j w e in omega (arith, h, k)
type_up ls v i j t (side_head _ _ _ d) = type_up ls _ i j t d
type_up ls v i j t (side_argument _ _ _ d) = type_up ls _ i j t d
type_up ls v i j t (target _ _ _ d) = type_up ls _ i j t d
type_up ls v i j t (arrow _ m _ u w d e f) = let h = type_up ls _ i m u d in let k = type_up ls _ (suc m) j w f in omega (arith, h, k)

-- the tokens of a type decide that it is one
pub type_same : (n : ℕ) (ls ms : List Lexeme) → Agree n ls ms → (v : Level) (i j : ℕ) (t : TypeTree) → j ≤ n → IsType ls v i j t → IsType ms v i j t
type_same n ls ms a v i j t l (word _ e) = word i (class_same n i ls ms a (omega (arith, l)) ∙ e)
type_same n ls ms a v i j t l (variable _ e) = variable i (class_same n i ls ms a (omega (arith, l)) ∙ e)
type_same n ls ms a v i j t l (group _ m u e d f) =
    let h = type_up ls Whole (suc i) m u d in
    group i m u (class_same n i ls ms a (omega (arith, h, l)) ∙ e) (type_same n ls ms a Whole (suc i) m u (omega (arith, l)) d) (class_same n m ls ms a (omega (arith, l)) ∙ f)
type_same n ls ms a v i j t l (head _ e) = head i (class_same n i ls ms a (omega (arith, l)) ∙ e)
type_same n ls ms a v i j t l (applied _ m _ u w d e) = let k = type_up ls _ m j w e in applied i m j u w (type_same n ls ms a _ i m u (omega (arith, k, l)) d) (type_same n ls ms a _ m j w l e)
type_same n ls ms a v i j t l (side_head _ _ _ d) = side_head i j t (type_same n ls ms a _ i j t l d)
type_same n ls ms a v i j t l (side_argument _ _ _ d) = side_argument i j t (type_same n ls ms a _ i j t l d)
type_same n ls ms a v i j t l (target _ _ _ d) = target i j t (type_same n ls ms a _ i j t l d)
type_same n ls ms a v i j t l (arrow _ m _ u w d e f) =
    let k = type_up ls _ (suc m) j w f in
    arrow i m j u w (type_same n ls ms a _ i m u (omega (arith, k, l)) d) (class_same n m ls ms a (omega (arith, k, l)) ∙ e) (type_same n ls ms a _ (suc m) j w l f)

pub runs_same : (n : ℕ) (ls ms : List Lexeme) → Agree n ls ms → (s r : TypeState) (i j : ℕ) → j ≤ n → Runs ls s i r j → Runs ms s i r j
runs_same n ls ms a s r i j l (stays _ _) = stays s i
runs_same n ls ms a s r i j l (goes _ q _ _ _ e d) =
    let u = runs_up ls q r (suc i) j d in
    goes s q r i j (ap (type_step s) (class_same n i ls ms a (omega (arith, u, l))) ∙ e) (runs_same n ls ms a q r (suc i) j l d)

-- a type before a backslash ends there, and no other token may be its end
pub ended_there : (ls : List Lexeme) (from i : ℕ) (t : TypeTree) → IsType ls Whole from i t → class_at ls i ≡ Backslash → (s : TypeState) × Runs ls (ts [] Wants) from s i × (type_step s (class_at ls i) ≡ Ends)
ended_there ls from i t d b = let r = type_complete ls Whole from i t d [] in (r.0, r.2, ap (type_step r.0) b ∙ above_left [] r.0 r.1)

pub goes_further : (ls : List Lexeme) (s r : TypeState) (i j : ℕ) → Runs ls s i r j → i < j → (q : TypeState) × (type_step s (class_at ls i) ≡ Goes q)
goes_further ls s r i j (stays _ _) l = absurd (omega (arith, l))
goes_further ls s r i j (goes _ q _ _ _ e d) l = (q, e)

halts : (m : TypeMove) (s : TypeState) → IsHalt m → m ≡ Goes s → ⊥
halts (Goes q) s h e = h
halts Ends s h e = cc
halts Stops s h e = cc

pub data Compared (a b : ℕ) : Type 0 where
  less : a < b → Compared a b
  same : a ≡ b → Compared a b
  more : b < a → Compared a b

pub compared : (a b : ℕ) → Compared a b
compared zero zero = same refl
compared zero (suc b) = less (omega arith)
compared (suc a) zero = more (omega arith)
compared (suc a) (suc b) = go (compared a b)
  where
    go : Compared a b → Compared (suc a) (suc b)
    go (less l) = less (omega (arith, l))
    go (same e) = same (ap suc e)
    go (more l) = more (omega (arith, l))

pub ends_no_more : (m : TypeMove) (q : TypeState) → m ≡ Ends → m ≡ Goes q → ⊥
ends_no_more m q e f = let g : Ends ≡ Goes q = sym e ∙ f in cc

same_state : (ls : List Lexeme) (a c : TypeState) (m n : ℕ) → m ≡ n → Runs ls a m c n → a ≡ c
same_state ls a c m n e (stays _ _) = refl
same_state ls a c m n e (goes _ q _ _ _ f d) = let u = runs_up ls q c (suc m) n d in absurd (omega (arith, u, e))

-- a type before a backslash ends where the reader halts
pub type_end : (ls : List Lexeme) (from p i : ℕ) (s : TypeState) (t : TypeTree) → Runs ls (ts [] Wants) from s p → IsHalt (type_step s (class_at ls p)) → IsType ls Whole from i t → class_at ls i ≡ Backslash → (p ≡ i) × (type_step s (class_at ls p) ≡ Ends)
type_end ls from p i s t d h k b = go (compared p i) (ended_there ls from i t k b)
  where
    go : Compared p i → (q : TypeState) × Runs ls (ts [] Wants) from q i × (type_step q (class_at ls i) ≡ Ends) → (p ≡ i) × (type_step s (class_at ls p) ≡ Ends)
    go (less l) r = let g = goes_further ls s r.0 p i (runs_further ls (ts [] Wants) s r.0 from p i d r.1 (omega (arith, l))) l in absurd (halts _ g.0 h g.1)
    go (same e) r =
        let f = runs_further ls (ts [] Wants) s r.0 from p i d r.1 (omega (arith, e)) in
        let q = same_state ls s r.0 p i e f in
        (e, (λ z. type_step (q z) (class_at ls (e z))) ∙ r.2)
    go (more l) r = let g = goes_further ls r.0 s i p (runs_further ls (ts [] Wants) r.0 s from i p r.1 d (omega (arith, l))) l in absurd (ends_no_more _ g.0 r.2 g.1)

-- the tokens that close what a type has open
abbrev pub closing : Lexeme
closing = record { kind = kind.Close; bytes = [] }

abbrev pub variable_token : Lexeme
variable_token = record { kind = kind.Upper; bytes = [] }

abbrev pub backslash : Lexeme
backslash = record { kind = kind.Backslash; bytes = [] }

abbrev pub type_closers : List Wait → List Lexeme → List Lexeme
type_closers [] rest = backslash ∷ rest
type_closers (AtArrow ∷ ws) rest = type_closers ws rest
type_closers (AtGroup ∷ ws) rest = closing ∷ type_closers ws rest
type_closers (AtArgument ∷ ws) rest = closing ∷ type_closers ws rest

abbrev pub type_completion : List Wait → Need → List Lexeme → List Lexeme
type_completion ws Wants rest = variable_token ∷ type_closers ws rest
type_completion ws Applies rest = type_closers ws rest
type_completion ws Has rest = type_closers ws rest

-- a text that goes on so, up to m, has a type here and a backslash behind it
pub record Completed (ls : List Lexeme) (s : TypeState) (i : ℕ) (rest : List Lexeme) (m : ℕ) : Type 0 where
  pub last : TypeState
  pub end : ℕ
  pub runs : Runs ls s i last end
  pub ends : type_step last (class_at ls end) ≡ Ends
  pub mark : class_at ls end ≡ Backslash
  pub stand : Stands ls (suc end) rest
  pub long : m ≡ suc end + length rest

completed_on : (ls : List Lexeme) (s r : TypeState) (i : ℕ) (rest : List Lexeme) (m : ℕ) → type_step s (class_at ls i) ≡ Goes r → Completed ls r (suc i) rest m → Completed ls s i rest m
completed_on ls s r i rest m e c = record { last = c.last; end = c.end; runs = goes s r c.last i c.end e c.runs; ends = c.ends; mark = c.mark; stand = c.stand; long = c.long }

completes_above : (ls : List Lexeme) (ws : List Wait) (s : TypeState) (i : ℕ) (rest : List Lexeme) (m : ℕ) → Above ws s → Stands ls i (type_closers ws rest) → m ≡ i + length (type_closers ws rest) → Completed ls s i rest m
completes_above ls [] s i rest m a h e = let b = class_stands ls i backslash h.0 in record { last = s; end = i; runs = stays s i; ends = ap (type_step s) b ∙ above_left [] s a; mark = b; stand = h.1; long = omega (arith, e) }
completes_above ls (AtArrow ∷ ws) s i rest m a h e = completes_above ls ws s i rest m (below_arrow ws s a) h e
completes_above ls (AtGroup ∷ ws) s i rest m a h e = completed_on ls s (ts ws Has) i rest m (ap (type_step s) (class_stands ls i closing h.0) ∙ above_close (AtGroup ∷ ws) s a) (completes_above ls ws (ts ws Has) (suc i) rest m (behind_type ws) h.1 (omega (arith, e)))
completes_above ls (AtArgument ∷ ws) s i rest m a h e = completed_on ls s (ts ws Applies) i rest m (ap (type_step s) (class_stands ls i closing h.0) ∙ above_close (AtArgument ∷ ws) s a) (completes_above ls ws (ts ws Applies) (suc i) rest m (behind_word ws) h.1 (omega (arith, e)))

pub completes_type : (ls : List Lexeme) (ws : List Wait) (n : Need) (i : ℕ) (rest : List Lexeme) (m : ℕ) → Stands ls i (type_completion ws n rest) → m ≡ i + length (type_completion ws n rest) → Completed ls (ts ws n) i rest m
completes_type ls ws Wants i rest m h e = completed_on ls (ts ws Wants) (ts ws Has) i rest m (ap (type_step (ts ws Wants)) (class_stands ls i variable_token h.0)) (completes_above ls ws (ts ws Has) (suc i) rest m (behind_type ws) h.1 (omega (arith, e)))
completes_type ls ws Applies i rest m h e = completes_above ls ws (ts ws Applies) i rest m (behind_word ws) h e
completes_type ls ws Has i rest m h e = completes_above ls ws (ts ws Has) i rest m (behind_type ws) h e
