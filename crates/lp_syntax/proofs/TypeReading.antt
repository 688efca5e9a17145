-- The reader of types reads the grammar of types.
use Rattle.std.proofs.Common.{◌≡◌, ℕ, suc, ◌≤◌, List, [], ◌∷◌, refl, sym, ap, ◌∙◌, subst, arith}
use Rattle.lp_syntax.specs.declared.class.Class.{Class}
use Rattle.lp_syntax.specs.declared.class.Class.TheVariants.{Lower, Upper, Symbol, Comma, Colon, Arrow, Number, Text, Open, Close, OpenList, CloseList, Bar, Dot, Backslash, Keyword, Unsupported, End}
use Rattle.lp_syntax.specs.Tokens.{Lexeme, class_at}
use Rattle.lp_syntax.specs.Types.{TypeTree, Named, Applied, Arrows, Level, Argument, Head, Side, Whole, IsType, word, variable, group, head, applied, side_head, side_argument, target, arrow}
use Rattle.lp_syntax.specs.TypeMachine.{Wait, AtArrow, AtGroup, AtArgument, Wants, Applies, Has, TypeState, TypeMove, Goes, Ends, Stops, ts, closed, left, type_wants, type_has, type_applies, type_step, Runs, stays, goes}

pub runs_on : (ls : List Lexeme) (s r q : TypeState) (i j k : ℕ) → Runs ls s i r j → Runs ls r j q k → Runs ls s i q k
runs_on ls s r q i j k (stays _ _) e = e
runs_on ls s r q i j k (goes _ a _ _ _ h d) e = goes s a q i k h (runs_on ls a r q (suc i) j k d e)

pub one_run : (ls : List Lexeme) (s r : TypeState) (i : ℕ) → type_step s (class_at ls i) ≡ Goes r → Runs ls s i r (suc i)
one_run ls s r i h = goes s r r i (suc i) h (stays r (suc i))

-- behind a side, and behind a whole type, above what waits
pub data Sided (ws : List Wait) : TypeState → Type 0 where
  of_word : Sided ws (ts ws Applies)
  of_type : Sided ws (ts ws Has)

pub data Above : List Wait → TypeState → Type 0 where
  behind_word : (ws : List Wait) → Above ws (ts ws Applies)
  behind_type : (ws : List Wait) → Above ws (ts ws Has)
  below_arrow : (ws : List Wait) (s : TypeState) → Above (AtArrow ∷ ws) s → Above ws s

pub above_close : (ws : List Wait) (s : TypeState) → Above ws s → type_step s Close ≡ closed ws
above_close ws s (behind_word _) = refl
above_close ws s (behind_type _) = refl
above_close ws s (below_arrow _ _ a) = above_close (AtArrow ∷ ws) s a

pub above_left : (ws : List Wait) (s : TypeState) → Above ws s → type_step s Backslash ≡ left ws
above_left ws s (behind_word _) = refl
above_left ws s (behind_type _) = refl
above_left ws s (below_arrow _ _ a) = above_left (AtArrow ∷ ws) s a

sided_arrow : (ws : List Wait) (s : TypeState) → Sided ws s → type_step s Arrow ≡ Goes (ts (AtArrow ∷ ws) Wants)
sided_arrow ws s of_word = refl
sided_arrow ws s of_type = refl

above_sided : (ws : List Wait) (s : TypeState) → Sided ws s → Above ws s
above_sided ws s of_word = behind_word ws
above_sided ws s of_type = behind_type ws

abbrev pub IsTypeRead : List Lexeme → Level → ℕ → ℕ → Type 0
IsTypeRead ls Argument i j = (ws : List Wait) → ((s : TypeState) × Sided ws s × Runs ls (ts ws Wants) i s j) × Runs ls (ts ws Applies) i (ts ws Applies) j
IsTypeRead ls Head i j = (ws : List Wait) → Runs ls (ts ws Wants) i (ts ws Applies) j
IsTypeRead ls Side i j = (ws : List Wait) → (s : TypeState) × Sided ws s × Runs ls (ts ws Wants) i s j
IsTypeRead ls Whole i j = (ws : List Wait) → (s : TypeState) × Above ws s × Runs ls (ts ws Wants) i s j

read_group : (ls : List Lexeme) (i j : ℕ) → class_at ls i ≡ Open → IsTypeRead ls Whole (suc i) j → class_at ls j ≡ Close → IsTypeRead ls Argument i (suc j)
read_group ls i j e h f ws =
    let g = h (AtGroup ∷ ws) in
    let a = h (AtArgument ∷ ws) in (
      (ts ws Has, of_type, goes _ _ _ i (suc j) (ap (type_step (ts ws Wants)) e) (runs_on ls _ _ _ (suc i) j (suc j) g.2 (one_run ls g.0 (ts ws Has) j (ap (type_step g.0) f ∙ above_close (AtGroup ∷ ws) g.0 g.1)))),
      goes _ _ _ i (suc j) (ap (type_step (ts ws Applies)) e) (runs_on ls _ _ _ (suc i) j (suc j) a.2 (one_run ls a.0 (ts ws Applies) j (ap (type_step a.0) f ∙ above_close (AtArgument ∷ ws) a.0 a.1))),
    )

read_arrow : (ls : List Lexeme) (i j k : ℕ) → IsTypeRead ls Side i j → class_at ls j ≡ Arrow → IsTypeRead ls Whole (suc j) k → IsTypeRead ls Whole i k
read_arrow ls i j k h e g ws =
    let a = h ws in
    let b = g (AtArrow ∷ ws) in
    (b.0, below_arrow ws b.0 b.1, runs_on ls _ _ _ i j k a.2 (goes _ _ _ j k (ap (type_step a.0) e ∙ sided_arrow ws a.0 a.1) b.2))

pub type_complete : (ls : List Lexeme) (v : Level) (i j : ℕ) (t : TypeTree) → IsType ls v i j t → IsTypeRead ls v i j
type_complete ls v i j t (word _ e) = λ ws. ((ts ws Applies, of_word, one_run ls _ _ i (ap (type_step (ts ws Wants)) e)), one_run ls _ _ i (ap (type_step (ts ws Applies)) e))
type_complete ls v i j t (variable _ e) = λ ws. ((ts ws Has, of_type, one_run ls _ _ i (ap (type_step (ts ws Wants)) e)), one_run ls _ _ i (ap (type_step (ts ws Applies)) e))
type_complete ls v i j t (group _ m u e d f) = read_group ls i m e (type_complete ls Whole (suc i) m u d) f
type_complete ls v i j t (head _ e) = λ ws. one_run ls _ _ i (ap (type_step (ts ws Wants)) e)
type_complete ls v i j t (applied _ m _ u w d e) = λ ws. runs_on ls _ _ _ i m j (type_complete ls Head i m u d ws) (type_complete ls Argument m j w e ws).1
type_complete ls v i j t (side_head _ _ _ d) = λ ws. (ts ws Applies, of_word, type_complete ls Head i j t d ws)
type_complete ls v i j t (side_argument _ _ _ d) = λ ws. (type_complete ls Argument i j t d ws).0
type_complete ls v i j t (target _ _ _ d) = λ ws. let r = type_complete ls Side i j t d ws in (r.0, above_sided ws r.0 r.1, r.2)
type_complete ls v i j t (arrow _ m _ u w d e f) = read_arrow ls i m j (type_complete ls Side i m u d) e (type_complete ls Whole (suc m) j w f)

-- the tokens up to one are what waits
pub data Waits (ls : List Lexeme) (from : ℕ) : List Wait → ℕ → Type 0 where
  bottom : Waits ls from [] from
  waits_arrow : (ws : List Wait) (i j : ℕ) (t : TypeTree) → Waits ls from ws i → IsType ls Side i j t → class_at ls j ≡ Arrow → Waits ls from (AtArrow ∷ ws) (suc j)
  waits_group : (ws : List Wait) (i : ℕ) → Waits ls from ws i → class_at ls i ≡ Open → Waits ls from (AtGroup ∷ ws) (suc i)
  waits_argument : (ws : List Wait) (i j : ℕ) (t : TypeTree) → Waits ls from ws i → IsType ls Head i j t → class_at ls j ≡ Open → Waits ls from (AtArgument ∷ ws) (suc j)

pub data TypeReads (ls : List Lexeme) (from : ℕ) : TypeState → ℕ → Type 0 where
  at_wants : (ws : List Wait) (i : ℕ) → Waits ls from ws i → TypeReads ls from (ts ws Wants) i
  at_word : (ws : List Wait) (i j : ℕ) (t : TypeTree) → Waits ls from ws i → IsType ls Head i j t → TypeReads ls from (ts ws Applies) j
  at_type : (ws : List Wait) (i j : ℕ) (t : TypeTree) → Waits ls from ws i → IsType ls Argument i j t → TypeReads ls from (ts ws Has) j

-- what a move at this token comes to
abbrev pub TypeKeeps : List Lexeme → ℕ → ℕ → TypeMove → Type 0
TypeKeeps ls from i (Goes s) = TypeReads ls from s (suc i)
TypeKeeps ls from i Ends = (t : TypeTree) × IsType ls Whole from i t
TypeKeeps ls from i Stops = Unit {0}

keeps_closed : (ls : List Lexeme) (from : ℕ) (ws : List Wait) (i j : ℕ) (t : TypeTree) → Waits ls from ws i → IsType ls Whole i j t → class_at ls j ≡ Close → TypeKeeps ls from j (closed ws)
keeps_closed ls from ws i j t bottom d e = (t, d)
keeps_closed ls from ws i j t (waits_arrow vs k m u h s a) d e = keeps_closed ls from vs k j (Arrows u t) h (arrow k m j u t s a d) e
keeps_closed ls from ws i j t (waits_group vs k h o) d e = at_type vs k (suc j) t h (group k j t o d e)
keeps_closed ls from ws i j t (waits_argument vs k m u h s o) d e = at_word vs k (suc j) (Applied u t) h (applied k m (suc j) u t s (group m j t o d e))

keeps_left : (ls : List Lexeme) (from : ℕ) (ws : List Wait) (i j : ℕ) (t : TypeTree) → Waits ls from ws i → IsType ls Whole i j t → TypeKeeps ls from j (left ws)
keeps_left ls from ws i j t bottom d = (t, d)
keeps_left ls from ws i j t (waits_arrow vs k m u h s a) d = keeps_left ls from vs k j (Arrows u t) h (arrow k m j u t s a d)
keeps_left ls from ws i j t (waits_group vs k h o) d = tt
keeps_left ls from ws i j t (waits_argument vs k m u h s o) d = tt

keeps_has : (ls : List Lexeme) (from : ℕ) (ws : List Wait) (i j : ℕ) (t : TypeTree) → Waits ls from ws i → IsType ls Side i j t → (c : Class) → class_at ls j ≡ c → TypeKeeps ls from j (type_has ws c)
keeps_has ls from ws i j t h d Lower e = keeps_left ls from ws i j t h (target i j t d)
keeps_has ls from ws i j t h d Upper e = keeps_left ls from ws i j t h (target i j t d)
keeps_has ls from ws i j t h d Symbol e = keeps_left ls from ws i j t h (target i j t d)
keeps_has ls from ws i j t h d Comma e = keeps_left ls from ws i j t h (target i j t d)
keeps_has ls from ws i j t h d Colon e = keeps_left ls from ws i j t h (target i j t d)
keeps_has ls from ws i j t h d Arrow e = at_wants (AtArrow ∷ ws) (suc j) (waits_arrow ws i j t h d e)
keeps_has ls from ws i j t h d (Number n) e = keeps_left ls from ws i j t h (target i j t d)
keeps_has ls from ws i j t h d Text e = keeps_left ls from ws i j t h (target i j t d)
keeps_has ls from ws i j t h d Open e = keeps_left ls from ws i j t h (target i j t d)
keeps_has ls from ws i j t h d Close e = keeps_closed ls from ws i j t h (target i j t d) e
keeps_has ls from ws i j t h d OpenList e = keeps_left ls from ws i j t h (target i j t d)
keeps_has ls from ws i j t h d CloseList e = keeps_left ls from ws i j t h (target i j t d)
keeps_has ls from ws i j t h d Bar e = keeps_left ls from ws i j t h (target i j t d)
keeps_has ls from ws i j t h d Dot e = keeps_left ls from ws i j t h (target i j t d)
keeps_has ls from ws i j t h d Backslash e = keeps_left ls from ws i j t h (target i j t d)
keeps_has ls from ws i j t h d (Keyword k) e = keeps_left ls from ws i j t h (target i j t d)
keeps_has ls from ws i j t h d Unsupported e = keeps_left ls from ws i j t h (target i j t d)
keeps_has ls from ws i j t h d End e = keeps_left ls from ws i j t h (target i j t d)

keeps_wants : (ls : List Lexeme) (from : ℕ) (ws : List Wait) (i : ℕ) → Waits ls from ws i → (c : Class) → class_at ls i ≡ c → TypeKeeps ls from i (type_wants ws c)
keeps_wants ls from ws i h Lower e = at_word ws i (suc i) (Named i) h (head i e)
keeps_wants ls from ws i h Upper e = at_type ws i (suc i) (Named i) h (variable i e)
keeps_wants ls from ws i h Symbol e = tt
keeps_wants ls from ws i h Comma e = tt
keeps_wants ls from ws i h Colon e = tt
keeps_wants ls from ws i h Arrow e = tt
keeps_wants ls from ws i h (Number n) e = tt
keeps_wants ls from ws i h Text e = tt
keeps_wants ls from ws i h Open e = at_wants (AtGroup ∷ ws) (suc i) (waits_group ws i h e)
keeps_wants ls from ws i h Close e = tt
keeps_wants ls from ws i h OpenList e = tt
keeps_wants ls from ws i h CloseList e = tt
keeps_wants ls from ws i h Bar e = tt
keeps_wants ls from ws i h Dot e = tt
keeps_wants ls from ws i h Backslash e = tt
keeps_wants ls from ws i h (Keyword k) e = tt
keeps_wants ls from ws i h Unsupported e = tt
keeps_wants ls from ws i h End e = tt

keeps_applies : (ls : List Lexeme) (from : ℕ) (ws : List Wait) (i j : ℕ) (t : TypeTree) → Waits ls from ws i → IsType ls Head i j t → (c : Class) → class_at ls j ≡ c → TypeKeeps ls from j (type_applies ws c)
keeps_applies ls from ws i j t h d Lower e = at_word ws i (suc j) (Applied t (Named j)) h (applied i j (suc j) t (Named j) d (word j e))
keeps_applies ls from ws i j t h d Upper e = at_word ws i (suc j) (Applied t (Named j)) h (applied i j (suc j) t (Named j) d (variable j e))
keeps_applies ls from ws i j t h d Symbol e = keeps_has ls from ws i j t h (side_head i j t d) Symbol e
keeps_applies ls from ws i j t h d Comma e = keeps_has ls from ws i j t h (side_head i j t d) Comma e
keeps_applies ls from ws i j t h d Colon e = keeps_has ls from ws i j t h (side_head i j t d) Colon e
keeps_applies ls from ws i j t h d Arrow e = keeps_has ls from ws i j t h (side_head i j t d) Arrow e
keeps_applies ls from ws i j t h d (Number n) e = keeps_has ls from ws i j t h (side_head i j t d) (Number n) e
keeps_applies ls from ws i j t h d Text e = keeps_has ls from ws i j t h (side_head i j t d) Text e
keeps_applies ls from ws i j t h d Open e = at_wants (AtArgument ∷ ws) (suc j) (waits_argument ws i j t h d e)
keeps_applies ls from ws i j t h d Close e = keeps_has ls from ws i j t h (side_head i j t d) Close e
keeps_applies ls from ws i j t h d OpenList e = keeps_has ls from ws i j t h (side_head i j t d) OpenList e
keeps_applies ls from ws i j t h d CloseList e = keeps_has ls from ws i j t h (side_head i j t d) CloseList e
keeps_applies ls from ws i j t h d Bar e = keeps_has ls from ws i j t h (side_head i j t d) Bar e
keeps_applies ls from ws i j t h d Dot e = keeps_has ls from ws i j t h (side_head i j t d) Dot e
keeps_applies ls from ws i j t h d Backslash e = keeps_has ls from ws i j t h (side_head i j t d) Backslash e
keeps_applies ls from ws i j t h d (Keyword k) e = keeps_has ls from ws i j t h (side_head i j t d) (Keyword k) e
keeps_applies ls from ws i j t h d Unsupported e = keeps_has ls from ws i j t h (side_head i j t d) Unsupported e
keeps_applies ls from ws i j t h d End e = keeps_has ls from ws i j t h (side_head i j t d) End e

pub keeps_type : (ls : List Lexeme) (from : ℕ) (s : TypeState) (i : ℕ) → TypeReads ls from s i → TypeKeeps ls from i (type_step s (class_at ls i))
keeps_type ls from s i (at_wants ws _ h) = keeps_wants ls from ws i h (class_at ls i) refl
keeps_type ls from s i (at_word ws k _ t h d) = keeps_applies ls from ws k i t h d (class_at ls i) refl
keeps_type ls from s i (at_type ws k _ t h d) = keeps_has ls from ws k i t h (side_argument k i t d) (class_at ls i) refl

pub runs_keep : (ls : List Lexeme) (from : ℕ) (s r : TypeState) (i j : ℕ) → Runs ls s i r j → TypeReads ls from s i → TypeReads ls from r j
runs_keep ls from s r i j (stays _ _) h = h
runs_keep ls from s r i j (goes _ q _ _ _ e d) h = runs_keep ls from q r (suc i) j d (subst (TypeKeeps ls from i) e (keeps_type ls from s i h))

-- where a run ends there is a type
pub type_sound : (ls : List Lexeme) (from : ℕ) (s : TypeState) (i : ℕ) → Runs ls (ts [] Wants) from s i → type_step s (class_at ls i) ≡ Ends → (t : TypeTree) × IsType ls Whole from i t
type_sound ls from s i d e = subst (TypeKeeps ls from i) e (keeps_type ls from s i (runs_keep ls from (ts [] Wants) s from i d (at_wants [] from bottom)))

pub runs_up : (ls : List Lexeme) (s r : TypeState) (i j : ℕ) → Runs ls s i r j → i ≤ j
runs_up ls s r i j (stays _ _) = omega arith
runs_up ls s r i j (goes _ q _ _ _ e d) = let z = runs_up ls q r (suc i) j d in omega (arith, z)

-- two runs from one place
pub runs_further : (ls : List Lexeme) (s a b : TypeState) (i j k : ℕ) → Runs ls s i a j → Runs ls s i b k → j ≤ k → Runs ls a j b k
runs_further ls s a b i j k (stays _ _) e l = e
runs_further ls s a b i j k (goes _ q _ _ _ h d) (stays _ _) l = let z = runs_up ls q a (suc i) j d in absurd (omega (arith, z, l))
runs_further ls s a b i j k (goes _ q _ _ _ h d) (goes _ r _ _ _ g e) l = let f : q ≡ r = same_goes (sym h ∙ g) in runs_further ls q a b (suc i) j k d (subst (λ z. Runs ls z (suc i) b k) (sym f) e) l
  where
    same_goes : {q r : TypeState} → Goes q ≡ Goes r → q ≡ r
    same_goes e = cc
