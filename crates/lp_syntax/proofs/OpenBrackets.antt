-- Open brackets, and those that a type opens.
use Rattle.std.proofs.Common.{◌≡◌, ℕ, zero, suc, ◌+◌, ◌-◌, ◌≤◌, List, [], ◌∷◌, ◌++◌, length, take, refl, sym, ap, ◌∙◌, subst, arith, length-append, append_assoc, append-nil}
use Rattle.std.specs.Prelude.{Some, None, slice_get}
use Rattle.std.proofs.lemmas.List.{nil_from_length}
use Rattle.lp_syntax.specs.declared.class.Class.{Class}
use Rattle.lp_syntax.specs.declared.class.Class.TheVariants.{Lower, Upper, Symbol, Comma, Colon, Arrow, Number, Text, Open, Close, OpenList, CloseList, Bar, Dot, Backslash, Keyword, Unsupported, End}
use Rattle.lp_syntax.specs.Tokens.{Lexeme, class_at, open_behind, open_on, open_brackets}
use Rattle.lp_syntax.specs.Faults.{innermost}
use Rattle.lp_syntax.specs.TypeMachine.{Wait, AtArrow, AtGroup, AtArgument, Need, Wants, Applies, Has, TypeState, TypeMove, Goes, Ends, Stops, ts, closed, left, type_has, type_step, Runs, stays, goes}
use Rattle.lp_syntax.proofs.TypeReading.{runs_up}

pub brackets_none : (ls : List Lexeme) (from : ℕ) → [] ≡ open_brackets ls from from
unfolding open_on
brackets_none ls from = let z : 0 ≡ from - from = omega arith in ap (open_on ls [] from) z

on_more : (ls : List Lexeme) (bs : List ℕ) (i n m : ℕ) → m ≡ i + n → open_on ls bs i (suc n) ≡ open_behind m (class_at ls m) (open_on ls bs i n)
unfolding open_on
on_more ls bs i zero m e = let z : i ≡ m = omega (arith, e) in ap (λ k. open_behind k (class_at ls k) bs) z
on_more ls bs i (suc n) m e = on_more ls (open_behind i (class_at ls i) bs) (suc i) n m (omega (arith, e))

pub brackets_more : (ls : List Lexeme) (from at : ℕ) (bs : List ℕ) → from ≤ at → bs ≡ open_brackets ls from at → open_behind at (class_at ls at) bs ≡ open_brackets ls from (at + 1)
brackets_more ls from at bs l e =
    let m : suc (at - from) ≡ (at + 1) - from = omega (arith, l) in
    ap (open_behind at (class_at ls at)) e ∙ sym (on_more ls [] from (at - from) at (omega (arith, l))) ∙ ap (open_on ls [] from) m

pub on_split : (ls : List Lexeme) (bs : List ℕ) (i n m k : ℕ) → k ≡ n + m → open_on ls bs i k ≡ open_on ls (open_on ls bs i n) (i + n) m
unfolding open_on
on_split ls bs i zero m k e = let z : k ≡ m = omega (arith, e) in let y : i ≡ i + 0 = omega arith in (λ h. open_on ls bs (y h) (z h))
on_split ls bs i (suc n) m zero e = absurd (omega (arith, e))
on_split ls bs i (suc n) m (suc k) e = let y : suc i + n ≡ i + suc n = omega arith in on_split ls (open_behind i (class_at ls i) bs) (suc i) n m k (omega (arith, e)) ∙ ap (λ j. open_on ls (open_on ls (open_behind i (class_at ls i) bs) (suc i) n) j m) y

abbrev pub brackets : List Wait → ℕ
brackets [] = 0
brackets (AtArrow ∷ ws) = brackets ws
brackets (AtGroup ∷ ws) = suc (brackets ws)
brackets (AtArgument ∷ ws) = suc (brackets ws)

-- a move keeps what was open before the type
abbrev pub KeepsOpen : ℕ → Class → List ℕ → List ℕ → TypeMove → Type 0
KeepsOpen i c bs os (Goes q) = (open_behind i c (bs ++ os) ≡ bs ++ open_behind i c os) × (length (open_behind i c os) ≡ brackets q.waits)
KeepsOpen i c bs os Ends = Unit {0}
KeepsOpen i c bs os Stops = Unit {0}

take_all : (xs : List ℕ) (x : ℕ) → take (length (xs ++ x ∷ []) - 1) (xs ++ x ∷ []) ≡ xs
take_all xs x = let l = length-append xs (x ∷ []) in let e : length (xs ++ x ∷ []) - 1 ≡ length xs = omega (arith, l) in ap (λ n. take n (xs ++ x ∷ [])) e ∙ go xs
  where
    go : (ys : List ℕ) → take (length ys) (ys ++ x ∷ []) ≡ ys
    go [] = refl
    go (y ∷ ys) = ap (λ l. y ∷ l) (go ys)

-- the last of a list
data Last : List ℕ → Type 0 where
  is_none : Last []
  is_last : (xs : List ℕ) (x : ℕ) → Last (xs ++ x ∷ [])

last_of : (xs : List ℕ) → Last xs
last_of [] = is_none
last_of (x ∷ xs) = go xs (last_of xs)
  where
    go : (ys : List ℕ) → Last ys → Last (x ∷ ys)
    go ys is_none = is_last [] x
    go ys (is_last zs z) = is_last (x ∷ zs) z

popped : (bs os : List ℕ) (n : ℕ) → length os ≡ suc n → (take (length (bs ++ os) - 1) (bs ++ os) ≡ bs ++ take (length os - 1) os) × (length (take (length os - 1) os) ≡ n)
popped bs os n e = go os (last_of os) e
  where
    go : (xs : List ℕ) → Last xs → length xs ≡ suc n → (take (length (bs ++ xs) - 1) (bs ++ xs) ≡ bs ++ take (length xs - 1) xs) × (length (take (length xs - 1) xs) ≡ n)
    go xs is_none h = absurd (omega (arith, h))
    go xs (is_last zs z) h = (
      ap (λ l. take (length l - 1) l) (sym (append_assoc bs zs (z ∷ []))) ∙ take_all (bs ++ zs) z ∙ ap (λ l. bs ++ l) (sym (take_all zs z)),
      ap length (take_all zs z) ∙ (let l = length-append zs (z ∷ []) in omega (arith, l, h)),
    )

pushed : (bs os : List ℕ) (i n : ℕ) → length os ≡ n → ((bs ++ os) ++ i ∷ [] ≡ bs ++ (os ++ i ∷ [])) × (length (os ++ i ∷ []) ≡ suc n)
pushed bs os i n e = (append_assoc bs os (i ∷ []), (let l = length-append os (i ∷ []) in omega (arith, l, e)))

closes_open : (i : ℕ) (bs os : List ℕ) (ws : List Wait) → length os ≡ brackets ws → KeepsOpen i Close bs os (closed ws)
closes_open i bs os [] e = tt
closes_open i bs os (AtArrow ∷ ws) e = closes_open i bs os ws e
closes_open i bs os (AtGroup ∷ ws) e = popped bs os (brackets ws) e
closes_open i bs os (AtArgument ∷ ws) e = popped bs os (brackets ws) e

left_open : (i : ℕ) (c : Class) (bs os : List ℕ) (ws : List Wait) → KeepsOpen i c bs os (left ws)
left_open i c bs os [] = tt
left_open i c bs os (AtArrow ∷ ws) = left_open i c bs os ws
left_open i c bs os (AtGroup ∷ ws) = tt
left_open i c bs os (AtArgument ∷ ws) = tt

has_open : (i : ℕ) (c : Class) (bs os : List ℕ) (ws : List Wait) → length os ≡ brackets ws → KeepsOpen i c bs os (type_has ws c)
has_open i Lower bs os ws e = left_open i Lower bs os ws
has_open i Upper bs os ws e = left_open i Upper bs os ws
has_open i Symbol bs os ws e = left_open i Symbol bs os ws
has_open i Comma bs os ws e = left_open i Comma bs os ws
has_open i Colon bs os ws e = left_open i Colon bs os ws
has_open i Arrow bs os ws e = (refl, e)
has_open i (Number n) bs os ws e = left_open i (Number n) bs os ws
has_open i Text bs os ws e = left_open i Text bs os ws
has_open i Open bs os ws e = left_open i Open bs os ws
has_open i Close bs os ws e = closes_open i bs os ws e
has_open i OpenList bs os ws e = left_open i OpenList bs os ws
has_open i CloseList bs os ws e = left_open i CloseList bs os ws
has_open i Bar bs os ws e = left_open i Bar bs os ws
has_open i Dot bs os ws e = left_open i Dot bs os ws
has_open i Backslash bs os ws e = left_open i Backslash bs os ws
has_open i (Keyword k) bs os ws e = left_open i (Keyword k) bs os ws
has_open i Unsupported bs os ws e = left_open i Unsupported bs os ws
has_open i End bs os ws e = left_open i End bs os ws

pub step_open : (i : ℕ) (n : Need) (c : Class) (bs os : List ℕ) (ws : List Wait) → length os ≡ brackets ws → KeepsOpen i c bs os (type_step (ts ws n) c)
step_open i Wants Lower bs os ws e = (refl, e)
step_open i Wants Upper bs os ws e = (refl, e)
step_open i Wants Symbol bs os ws e = tt
step_open i Wants Comma bs os ws e = tt
step_open i Wants Colon bs os ws e = tt
step_open i Wants Arrow bs os ws e = tt
step_open i Wants (Number n) bs os ws e = tt
step_open i Wants Text bs os ws e = tt
step_open i Wants Open bs os ws e = pushed bs os i (brackets ws) e
step_open i Wants Close bs os ws e = tt
step_open i Wants OpenList bs os ws e = tt
step_open i Wants CloseList bs os ws e = tt
step_open i Wants Bar bs os ws e = tt
step_open i Wants Dot bs os ws e = tt
step_open i Wants Backslash bs os ws e = tt
step_open i Wants (Keyword k) bs os ws e = tt
step_open i Wants Unsupported bs os ws e = tt
step_open i Wants End bs os ws e = tt
step_open i Applies Lower bs os ws e = (refl, e)
step_open i Applies Upper bs os ws e = (refl, e)
step_open i Applies Symbol bs os ws e = has_open i Symbol bs os ws e
step_open i Applies Comma bs os ws e = has_open i Comma bs os ws e
step_open i Applies Colon bs os ws e = has_open i Colon bs os ws e
step_open i Applies Arrow bs os ws e = has_open i Arrow bs os ws e
step_open i Applies (Number n) bs os ws e = has_open i (Number n) bs os ws e
step_open i Applies Text bs os ws e = has_open i Text bs os ws e
step_open i Applies Open bs os ws e = pushed bs os i (brackets ws) e
step_open i Applies Close bs os ws e = has_open i Close bs os ws e
step_open i Applies OpenList bs os ws e = has_open i OpenList bs os ws e
step_open i Applies CloseList bs os ws e = has_open i CloseList bs os ws e
step_open i Applies Bar bs os ws e = has_open i Bar bs os ws e
step_open i Applies Dot bs os ws e = has_open i Dot bs os ws e
step_open i Applies Backslash bs os ws e = has_open i Backslash bs os ws e
step_open i Applies (Keyword k) bs os ws e = has_open i (Keyword k) bs os ws e
step_open i Applies Unsupported bs os ws e = has_open i Unsupported bs os ws e
step_open i Applies End bs os ws e = has_open i End bs os ws e
step_open i Has c bs os ws e = has_open i c bs os ws e

-- a type keeps what was open before it
pub record StaysOpen (ls : List Lexeme) (bs os : List ℕ) (i j : ℕ) (ws : List Wait) : Type 0 where
  pub same : open_on ls (bs ++ os) i (j - i) ≡ bs ++ open_on ls os i (j - i)
  pub count : length (open_on ls os i (j - i)) ≡ brackets ws

pub runs_open : (ls : List Lexeme) (s r : TypeState) (i j : ℕ) → Runs ls s i r j → (bs os : List ℕ) → length os ≡ brackets s.waits → StaysOpen ls bs os i j r.waits
unfolding open_on
runs_open ls s r i j (stays _ _) bs os e =
    let z : 0 ≡ i - i = omega arith in
    record { same = (λ k. open_on ls (bs ++ os) i (sym z k)) ∙ ap (λ n. bs ++ open_on ls os i n) z; count = ap (λ n. length (open_on ls os i n)) (sym z) ∙ e }
runs_open ls s r i j (goes _ q _ _ _ e d) bs os f =
    let u = runs_up ls q r (suc i) j d in
    let k = subst (KeepsOpen i (class_at ls i) bs os) e (step_open i s.need (class_at ls i) bs os s.waits f) in
    let h = runs_open ls q r (suc i) j d bs (open_behind i (class_at ls i) os) k.1 in
    let z : suc (j - suc i) ≡ j - i = omega (arith, u) in
    record {
      same = ap (open_on ls (bs ++ os) i) (sym z) ∙ ap (λ l. open_on ls l (suc i) (j - suc i)) k.0 ∙ h.same ∙ ap (λ n. bs ++ open_on ls os i n) z;
      count = ap (λ n. length (open_on ls os i n)) (sym z) ∙ h.count;
    }

-- where it ends nothing is open in it
left_none : (ws : List Wait) → left ws ≡ Ends → brackets ws ≡ 0
left_none [] e = refl
left_none (AtArrow ∷ ws) e = left_none ws e
left_none (AtGroup ∷ ws) e = cc
left_none (AtArgument ∷ ws) e = cc

closed_none : (ws : List Wait) → closed ws ≡ Ends → brackets ws ≡ 0
closed_none [] e = refl
closed_none (AtArrow ∷ ws) e = closed_none ws e
closed_none (AtGroup ∷ ws) e = cc
closed_none (AtArgument ∷ ws) e = cc

has_none : (c : Class) (ws : List Wait) → type_has ws c ≡ Ends → brackets ws ≡ 0
has_none Lower ws e = left_none ws e
has_none Upper ws e = left_none ws e
has_none Symbol ws e = left_none ws e
has_none Comma ws e = left_none ws e
has_none Colon ws e = left_none ws e
has_none Arrow ws e = cc
has_none (Number n) ws e = left_none ws e
has_none Text ws e = left_none ws e
has_none Open ws e = left_none ws e
has_none Close ws e = closed_none ws e
has_none OpenList ws e = left_none ws e
has_none CloseList ws e = left_none ws e
has_none Bar ws e = left_none ws e
has_none Dot ws e = left_none ws e
has_none Backslash ws e = left_none ws e
has_none (Keyword k) ws e = left_none ws e
has_none Unsupported ws e = left_none ws e
has_none End ws e = left_none ws e

pub ends_none : (n : Need) (c : Class) (ws : List Wait) → type_step (ts ws n) c ≡ Ends → brackets ws ≡ 0
ends_none Wants Lower ws e = cc
ends_none Wants Upper ws e = cc
ends_none Wants Symbol ws e = cc
ends_none Wants Comma ws e = cc
ends_none Wants Colon ws e = cc
ends_none Wants Arrow ws e = cc
ends_none Wants (Number n) ws e = cc
ends_none Wants Text ws e = cc
ends_none Wants Open ws e = cc
ends_none Wants Close ws e = cc
ends_none Wants OpenList ws e = cc
ends_none Wants CloseList ws e = cc
ends_none Wants Bar ws e = cc
ends_none Wants Dot ws e = cc
ends_none Wants Backslash ws e = cc
ends_none Wants (Keyword k) ws e = cc
ends_none Wants Unsupported ws e = cc
ends_none Wants End ws e = cc
ends_none Applies Lower ws e = cc
ends_none Applies Upper ws e = cc
ends_none Applies Symbol ws e = has_none Symbol ws e
ends_none Applies Comma ws e = has_none Comma ws e
ends_none Applies Colon ws e = has_none Colon ws e
ends_none Applies Arrow ws e = has_none Arrow ws e
ends_none Applies (Number n) ws e = has_none (Number n) ws e
ends_none Applies Text ws e = has_none Text ws e
ends_none Applies Open ws e = cc
ends_none Applies Close ws e = has_none Close ws e
ends_none Applies OpenList ws e = has_none OpenList ws e
ends_none Applies CloseList ws e = has_none CloseList ws e
ends_none Applies Bar ws e = has_none Bar ws e
ends_none Applies Dot ws e = has_none Dot ws e
ends_none Applies Backslash ws e = has_none Backslash ws e
ends_none Applies (Keyword k) ws e = has_none (Keyword k) ws e
ends_none Applies Unsupported ws e = has_none Unsupported ws e
ends_none Applies End ws e = has_none End ws e
ends_none Has c ws e = has_none c ws e

-- the brackets behind an annotation, or where it stops
pub note_brackets : (ls : List Lexeme) (from at p : ℕ) (bs : List ℕ) (q : TypeState) → from ≤ at → class_at ls at ≡ Colon → bs ≡ open_brackets ls from at → Runs ls (ts [] Wants) (at + 1) q p → open_brackets ls from p ≡ bs ++ open_brackets ls (at + 1) p
note_brackets ls from at p bs q l c e d =
    let u = runs_up ls (ts [] Wants) q (at + 1) p d in
    let f : bs ≡ open_brackets ls from (at + 1) = ap (λ k. open_behind at k bs) (sym c) ∙ brackets_more ls from at bs l e in
    let z : from + ((at + 1) - from) ≡ at + 1 = omega (arith, l) in
    on_split ls [] from ((at + 1) - from) (p - (at + 1)) (p - from) (omega (arith, l, u))
    ∙ (λ k. open_on ls (sym f k) (z k) (p - (at + 1)))
    ∙ ap (λ b. open_on ls b (at + 1) (p - (at + 1))) (sym (append-nil bs))
    ∙ (runs_open ls (ts [] Wants) q (at + 1) p d bs [] refl).same

pub type_closed : (ls : List Lexeme) (i p : ℕ) (q : TypeState) → Runs ls (ts [] Wants) i q p → type_step q (class_at ls p) ≡ Ends → open_brackets ls i p ≡ []
type_closed ls i p q d h = nil_from_length (open_brackets ls i p) ((runs_open ls (ts [] Wants) q i p d [] [] refl).count ∙ ends_none q.need (class_at ls p) q.waits h)

pub note_closed : (ls : List Lexeme) (from at p : ℕ) (bs : List ℕ) (q : TypeState) → from ≤ at → class_at ls at ≡ Colon → bs ≡ open_brackets ls from at → Runs ls (ts [] Wants) (at + 1) q p → type_step q (class_at ls p) ≡ Ends → open_brackets ls from p ≡ bs
note_closed ls from at p bs q l c e d h = note_brackets ls from at p bs q l c e d ∙ ap (λ os. bs ++ os) (type_closed ls (at + 1) p q d h) ∙ append-nil bs

at_last : (xs : List ℕ) (x : ℕ) → innermost (xs ++ x ∷ []) ≡ Some x
at_last xs x = let l = length-append xs (x ∷ []) in let e : length (xs ++ x ∷ []) - 1 ≡ length xs = omega (arith, l) in ap (slice_get (xs ++ x ∷ [])) e ∙ go xs
  where
    go : (ys : List ℕ) → slice_get (ys ++ x ∷ []) (length ys) ≡ Some x
    go [] = refl
    go (y ∷ ys) = go ys

-- the innermost of brackets and of those in them
pub innermost_outer : (bs os : List ℕ) → innermost os ≡ None → innermost (bs ++ os) ≡ innermost bs
innermost_outer bs os e = go os (last_of os) e
  where
    go : (xs : List ℕ) → Last xs → innermost xs ≡ None → innermost (bs ++ xs) ≡ innermost bs
    go xs is_none h = ap innermost (append-nil bs)
    go xs (is_last zs z) h = let f : Some z ≡ None = sym (at_last zs z) ∙ h in cc

pub innermost_inner : (bs os : List ℕ) (b : ℕ) → innermost os ≡ Some b → innermost (bs ++ os) ≡ Some b
innermost_inner bs os b e = go os (last_of os) e
  where
    go : (xs : List ℕ) → Last xs → innermost xs ≡ Some b → innermost (bs ++ xs) ≡ Some b
    go xs is_none h = cc
    go xs (is_last zs z) h = ap innermost (sym (append_assoc bs zs (z ∷ []))) ∙ at_last (bs ++ zs) z ∙ sym (at_last zs z) ∙ h
