-- The symbols of the tokens of a text.
use Rattle.std.proofs.Common.{◌≡◌, ◌≢◌, ℕ, suc, ◌+◌, ◌<◌, ◌≤◌, List, [], ◌∷◌, ◌++◌, length, refl, sym, ap, ◌∙◌, subst, arith}
use Rattle.std.specs.Prelude.{Some, slice_get}
use Rattle.lp_lexer.specs.declared.token.TokenKind.TheVariants as kind
use Rattle.lp_syntax.specs.declared.class.Class.TheVariants.{Colon, Backslash}
use Rattle.lp_syntax.specs.declared.symbol.Sym.{Sym}
use Rattle.lp_syntax.specs.declared.symbol.Sym.TheVariants.{Atom, Closes, ClosesList, Binds}
use Rattle.lp_syntax.specs.Tokens.{Lexeme, Operators, class_at, class_in, symbol_at, symbol_of, Agree}
use Rattle.lp_syntax.specs.Types.{TypeTree, IsType, Whole}
use Rattle.lp_syntax.specs.TypeMachine.{IsHalt}
use Rattle.lp_syntax.specs.Machine.{Frame, Waits, Under, Inside, Item, Tail, Mode, Wants, Fresh, FreshList, Named, Has, Formed, State}
use Rattle.lp_syntax.specs.Terms.{Spells, done, token, note}
use Rattle.lp_syntax.proofs.Tokens.{class_same, symbol_same, class_stands, symbol_stands, Stands}
use Rattle.lp_syntax.proofs.TypeFaults.{type_same, type_up, type_end, ended_there, closing}
use Rattle.lp_syntax.proofs.Reading.{closers, completion}

pub spells_up : (ops : Operators) (ls : List Lexeme) (i j : ℕ) (cs : List Sym) → Spells ops ls i j cs → i ≤ j
spells_up ops ls i j cs (done _) = omega arith
spells_up ops ls i j cs (token _ _ ds n d) = let h = spells_up ops ls (suc i) j ds d in omega (arith, h)
spells_up ops ls i j cs (note _ k _ t ds c y b d) = let h = spells_up ops ls (suc k) j ds d in let u = type_up ls Whole (suc i) k t y in omega (arith, h, u)

pub spells_on : (ops : Operators) (ls : List Lexeme) (i j k : ℕ) (cs ds : List Sym) → Spells ops ls i j cs → Spells ops ls j k ds → Spells ops ls i k (cs ++ ds)
spells_on ops ls i j k cs ds (done _) e = e
spells_on ops ls i j k cs ds (token _ _ es n d) e = token i k (es ++ ds) n (spells_on ops ls (suc i) j k es ds d e)
spells_on ops ls i j k cs ds (note _ m _ t es c y b d) e = note i m k t (es ++ ds) c y b (spells_on ops ls (suc m) j k es ds d e)

pub spells_same : (ops : Operators) (n : ℕ) (ls ms : List Lexeme) → Agree n ls ms → (i j : ℕ) (cs : List Sym) → j ≤ n → Spells ops ls i j cs → Spells ops ms i j cs
spells_same ops n ls ms a i j cs l (done _) = done i
spells_same ops n ls ms a i j cs l (token _ _ ds c d) =
    let u = spells_up ops ls (suc i) j ds d in
    let k : i < n = omega (arith, u, l) in
    subst (λ s. Spells ops ms i j (s ∷ ds)) (symbol_same ops n i ls ms a k) (token i j ds (λ e. c (sym (class_same n i ls ms a k) ∙ e)) (spells_same ops n ls ms a (suc i) j ds l d))
spells_same ops n ls ms a i j cs l (note _ k _ t ds c y b d) =
    let u = spells_up ops ls (suc k) j ds d in
    let v = type_up ls Whole (suc i) k t y in
    note i k j t ds (class_same n i ls ms a (omega (arith, u, v, l)) ∙ c) (type_same n ls ms a Whole (suc i) k t (omega (arith, u, l)) y) (class_same n k ls ms a (omega (arith, u, l)) ∙ b) (spells_same ops n ls ms a (suc k) j ds l d)

-- annotations from one colon end at one token
pub note_end : (ls : List Lexeme) (i j k : ℕ) (t u : TypeTree) → IsType ls Whole i j t → class_at ls j ≡ Backslash → IsType ls Whole i k u → class_at ls k ≡ Backslash → j ≡ k
note_end ls i j k t u d b e c = let r = ended_there ls i j t d b in (type_end ls i j k r.0 u r.1 (subst IsHalt (sym r.2) tt) e c).0

-- a spelling that goes further goes on from the shorter one
pub record Further (ops : Operators) (ls : List Lexeme) (cs : List Sym) (n m : ℕ) (ds : List Sym) : Type 0 where
  pub after : List Sym
  pub are : ds ≡ cs ++ after
  pub spells : Spells ops ls n m after

further_on : (ops : Operators) (ls : List Lexeme) (c : Sym) (cs : List Sym) (n m : ℕ) (ds : List Sym) → Further ops ls cs n m ds → Further ops ls (c ∷ cs) n m (c ∷ ds)
further_on ops ls c cs n m ds f = record { after = f.after; are = ap (λ l. c ∷ l) f.are; spells = f.spells }

pub spells_further : (ops : Operators) (ls : List Lexeme) (i n m : ℕ) (cs ds : List Sym) → Spells ops ls i n cs → Spells ops ls i m ds → n ≤ m → Further ops ls cs n m ds
spells_further ops ls i n m cs ds (done _) e l = record { after = ds; are = refl; spells = e }
spells_further ops ls i n m cs ds (token _ _ es c d) (done _) l = let u = spells_up ops ls (suc i) n es d in absurd (omega (arith, u, l))
spells_further ops ls i n m cs ds (token _ _ es c d) (token _ _ fs _ e) l = further_on ops ls _ es n m fs (spells_further ops ls (suc i) n m es fs d e l)
spells_further ops ls i n m cs ds (token _ _ es c d) (note _ k _ t fs f y b e) l = absurd (c f)
spells_further ops ls i n m cs ds (note _ j _ t es c x b d) (done _) l = let u = spells_up ops ls (suc j) n es d in let v = type_up ls Whole (suc i) j t x in absurd (omega (arith, u, v, l))
spells_further ops ls i n m cs ds (note _ j _ t es c x b d) (token _ _ fs f e) l = absurd (f c)
spells_further ops ls i n m cs ds (note _ j _ t es c x b d) (note _ k _ u fs f y g e) l =
    let h = note_end ls (suc i) k j u t y g x b in
    further_on ops ls _ es n m fs (spells_further ops ls (suc j) n m es fs d (subst (λ z. Spells ops ls (suc z) m fs) h e) l)

-- the first symbol
pub record FirstPlain (ops : Operators) (ls : List Lexeme) (i j : ℕ) (ds : List Sym) : Type 0 where
  pub after : List Sym
  pub are : ds ≡ symbol_at ops ls i ∷ after
  pub spells : Spells ops ls (suc i) j after

pub first_plain : (ops : Operators) (ls : List Lexeme) (i j : ℕ) (ds : List Sym) → Spells ops ls i j ds → i < j → class_at ls i ≢ Colon → FirstPlain ops ls i j ds
first_plain ops ls i j ds (done _) l n = absurd (omega (arith, l))
first_plain ops ls i j ds (token _ _ es c d) l n = record { after = es; are = refl; spells = d }
first_plain ops ls i j ds (note _ k _ t es c y b d) l n = absurd (n c)

pub record FirstNote (ops : Operators) (ls : List Lexeme) (i j : ℕ) (ds : List Sym) : Type 0 where
  pub after : List Sym
  pub are : ds ≡ Binds (Some i) ∷ after
  pub end : ℕ
  pub tree : TypeTree
  pub type_is : IsType ls Whole (suc i) end tree
  pub mark : class_at ls end ≡ Backslash
  pub spells : Spells ops ls (suc end) j after

pub first_note : (ops : Operators) (ls : List Lexeme) (i j : ℕ) (ds : List Sym) → Spells ops ls i j ds → i < j → class_at ls i ≡ Colon → FirstNote ops ls i j ds
first_note ops ls i j ds (done _) l n = absurd (omega (arith, l))
first_note ops ls i j ds (token _ _ es c d) l n = absurd (c n)
first_note ops ls i j ds (note _ k _ t es c y b d) l n = record { after = es; are = refl; end = k; tree = t; type_is = y; mark = b; spells = d }

-- symbols that these tokens are, whatever operators there are
abbrev pub text_token : Lexeme
text_token = record { kind = kind.Text; bytes = [] }

abbrev pub closing_list : Lexeme
closing_list = record { kind = kind.CloseList; bytes = [] }

pub data Marks : ℕ → List Sym → List Lexeme → Type 0 where
  no_mark : (n : ℕ) → Marks n [] []
  atom_mark : (n : ℕ) (cs : List Sym) (ms : List Lexeme) → Marks (suc n) cs ms → Marks n (Atom n ∷ cs) (text_token ∷ ms)
  bracket_mark : (n : ℕ) (cs : List Sym) (ms : List Lexeme) → Marks (suc n) cs ms → Marks n (Closes ∷ cs) (closing ∷ ms)
  list_mark : (n : ℕ) (cs : List Sym) (ms : List Lexeme) → Marks (suc n) cs ms → Marks n (ClosesList n ∷ cs) (closing_list ∷ ms)

abbrev closing_tokens : List Frame → List Lexeme
closing_tokens [] = []
closing_tokens (Waits o l ∷ fs) = closing_tokens fs
closing_tokens (Under v y fn ∷ fs) = closing_tokens fs
closing_tokens (Inside fn ∷ fs) = closing ∷ closing_tokens fs
closing_tokens (Item v fn is ∷ fs) = closing_list ∷ closing_tokens fs
closing_tokens (Tail fn is ∷ fs) = closing_list ∷ closing_tokens fs

abbrev completing_in : List Frame → Mode → List Lexeme
completing_in fs Wants = text_token ∷ closing_tokens fs
completing_in fs Fresh = text_token ∷ closing_tokens fs
completing_in fs FreshList = closing_tokens fs
completing_in fs (Named o) = closing_tokens fs
completing_in fs (Has fn x w) = closing_tokens fs
completing_in fs (Formed f k t) = closing_tokens fs

-- the tokens that complete a term
abbrev pub completing : State → List Lexeme
completing s = completing_in s.frames s.mode

closers_marks : (n : ℕ) (fs : List Frame) → Marks n (closers n fs) (closing_tokens fs)
closers_marks n [] = no_mark n
closers_marks n (Waits o l ∷ fs) = closers_marks n fs
closers_marks n (Under v y fn ∷ fs) = closers_marks n fs
closers_marks n (Inside fn ∷ fs) = bracket_mark n _ _ (closers_marks (suc n) fs)
closers_marks n (Item v fn is ∷ fs) = list_mark n _ _ (closers_marks (suc n) fs)
closers_marks n (Tail fn is ∷ fs) = list_mark n _ _ (closers_marks (suc n) fs)

pub completion_marks : (n : ℕ) (s : State) → Marks n (completion n s) (completing s)
completion_marks n s = go s.mode
  where
    go : (m : Mode) → Marks n (completion n (record { frames = s.frames; mode = m })) (completing (record { frames = s.frames; mode = m }))
    go Wants = atom_mark n _ _ (closers_marks (suc n) s.frames)
    go Fresh = atom_mark n _ _ (closers_marks (suc n) s.frames)
    go FreshList = closers_marks n s.frames
    go (Named o) = closers_marks n s.frames
    go (Has fn x w) = closers_marks n s.frames
    go (Formed f k t) = closers_marks n s.frames

plain_token : (ops : Operators) (ls : List Lexeme) (i j : ℕ) (l : Lexeme) (c : Sym) (cs : List Sym) → slice_get ls i ≡ Some l → class_in (Some l) ≢ Colon → symbol_of i (class_in (Some l)) (ops l.bytes) ≡ c → Spells ops ls (suc i) j cs → Spells ops ls i j (c ∷ cs)
plain_token ops ls i j l c cs e n s d = subst (λ z. Spells ops ls i j (z ∷ cs)) (symbol_stands ops ls i l e ∙ s) (token i j cs (λ f. n (sym (class_stands ls i l e) ∙ f)) d)

pub marks_spell : (ops : Operators) (ls : List Lexeme) (n m : ℕ) (cs : List Sym) (ms : List Lexeme) → Marks n cs ms → Stands ls n ms → m ≡ n + length ms → Spells ops ls n m cs
marks_spell ops ls n m cs ms (no_mark _) h e = let f : n ≡ m = omega (arith, e) in subst (λ z. Spells ops ls n z []) f (done n)
marks_spell ops ls n m cs ms (atom_mark _ ds ns d) h e = plain_token ops ls n m text_token (Atom n) ds h.0 (λ z. cc) refl (marks_spell ops ls (suc n) m ds ns d h.1 (omega (arith, e)))
marks_spell ops ls n m cs ms (bracket_mark _ ds ns d) h e = plain_token ops ls n m closing Closes ds h.0 (λ z. cc) refl (marks_spell ops ls (suc n) m ds ns d h.1 (omega (arith, e)))
marks_spell ops ls n m cs ms (list_mark _ ds ns d) h e = plain_token ops ls n m closing_list (ClosesList n) ds h.0 (λ z. cc) refl (marks_spell ops ls (suc n) m ds ns d h.1 (omega (arith, e)))
