-- The laws of what fits beside an operator.
use Rattle.std.proofs.Common.{◌≡◌, ℕ, ◌<◌, ◌≤◌, Bool, true, false, ◌&&◌, ◌||◌, nat_eq, nat_lt, nat_le, refl, sym, ap, ◌∙◌, arith, inl, inr, ltb-true, lt-ltb, eqb-true, true≢false, eq-eqb, leb-true, le-leb}
use Rattle.std.proofs.lemmas.Bool.{and_parts, or_cases, and_from, cases_Bool, cases_order, false≢true, or_left, or_right}
use Rattle.lp_standard.specs.declared.fixity.Fixity.{Fixity}
use Rattle.lp_standard.specs.declared.fixity.Fixity.TheVariants.{Infix, Infixl, Infixr, Prefix, Prefixr, Postfix, Postfixl}
use Rattle.lp_syntax.specs.declared.symbol.Oper.{Oper}
use Rattle.lp_syntax.specs.Symbols.{Form, Whole, By, is_left, is_right, is_postfix, fits_left, fits_right, is_item, separates, is_infixr}

no_both : (f : Fixity) → is_left f ≡ true → is_right f ≡ true → ⊥
no_both Infix h k = false≢true h
no_both Infixl h k = false≢true k
no_both Infixr h k = false≢true h
no_both Prefix h k = false≢true h
no_both Prefixr h k = false≢true h
no_both Postfix h k = false≢true h
no_both Postfixl h k = false≢true k

-- what fits, as numbers
pub data Fit (m n : ℕ) (a b : Bool) : Type 0 where
  above : n < m → Fit m n a b
  level : n ≡ m → a ≡ true → b ≡ true → Fit m n a b

fit_of : (m n : ℕ) (a b : Bool) → (nat_lt n m || (nat_eq n m && a && b)) ≡ true → Fit m n a b
fit_of m n a b h =
    elim (or_cases (nat_lt n m) (nat_eq n m && a && b) h) [
      | inl l ↦ above (ltb-true n m l)
      | inr r ↦ let p = and_parts (nat_eq n m && a) b r in let q = and_parts (nat_eq n m) a p.0 in level (eqb-true n m q.0) q.1 p.1
    ]

of_fit : (m n : ℕ) (a b : Bool) → Fit m n a b → (nat_lt n m || (nat_eq n m && a && b)) ≡ true
of_fit m n a b (above l) = or_left _ _ (lt-ltb n m l)
of_fit m n a b (level e h k) = or_right (nat_lt n m) _ (and_from _ _ (and_from _ _ (eq-eqb n m e) h) k)

un_fit : (m n : ℕ) (a b : Bool) → (Fit m n a b → ⊥) → (nat_lt n m || (nat_eq n m && a && b)) ≡ false
un_fit m n a b h = elim (cases_Bool (nat_lt n m || (nat_eq n m && a && b))) [ inl t ↦ absurd (h (fit_of m n a b t)) | inr f ↦ f ]

-- an operand of an operator that fits on the left fits there itself
pub left_within : (g : Form) (p o : Fixity) (n m : ℕ) → fits_left (By p n) o m ≡ true → fits_right g p n ≡ true → fits_left g o m ≡ true
unfolding fits_left fits_right
left_within Whole p o n m h k = refl
left_within (By q i) p o n m h k = of_fit _ _ _ _ (go (fit_of _ _ _ _ h) (fit_of _ _ _ _ k))
  where
    go : Fit n m (is_left o) (is_left p) → Fit i n (is_right p) (is_right q) → Fit i m (is_left o) (is_left q)
    go (above l) (above l') = above (omega arith)
    go (above l) (level e a b) = above (omega arith)
    go (level e a b) (above l') = above (omega arith)
    go (level e a b) (level e' a' b') = absurd (no_both p b a')

-- an operator that takes another as its left operand does not fit on its right
pub not_within : (p o : Fixity) (n m : ℕ) → fits_left (By p n) o m ≡ true → fits_right (By o m) p n ≡ false
unfolding fits_left fits_right
not_within p o n m h = un_fit _ _ _ _ (go (fit_of _ _ _ _ h))
  where
    go : Fit n m (is_left o) (is_left p) → Fit m n (is_right p) (is_right o) → ⊥
    go (above l) (above l') = omega arith
    go (above l) (level e a b) = omega arith
    go (level e a b) (above l') = omega arith
    go (level e a b) (level e' a' b') = no_both p b a'

-- the left operand of what fits on the right fits there too
pub right_within : (g : Form) (p o : Fixity) (n m : ℕ) → fits_right (By o m) p n ≡ true → fits_left g o m ≡ true → fits_right g p n ≡ true
unfolding fits_left fits_right
right_within Whole p o n m h k = refl
right_within (By q i) p o n m h k = of_fit _ _ _ _ (go (fit_of _ _ _ _ h) (fit_of _ _ _ _ k))
  where
    go : Fit m n (is_right p) (is_right o) → Fit i m (is_left o) (is_left q) → Fit i n (is_right p) (is_right q)
    go (above l) (above l') = above (omega arith)
    go (above l) (level e a b) = above (omega arith)
    go (level e a b) (above l') = above (omega arith)
    go (level e a b) (level e' a' b') = absurd (no_both o a' b)

pub item_within : (g : Form) (o : Fixity) (m : ℕ) → is_item (By o m) ≡ true → fits_left g o m ≡ true → is_item g ≡ true
unfolding fits_left is_item
item_within Whole o m h k = refl
item_within (By q i) o m h k = le-leb 111 i (go (fit_of _ _ _ _ k))
  where
    low : 111 ≤ m
    low = leb-true 111 m h

    go : Fit i m (is_left o) (is_left q) → 111 ≤ i
    go (above l) = omega (arith, low)
    go (level e a b) = omega (arith, low)

pub item_comma : (g : Form) → is_item g ≡ true → fits_left g Infixr 110 ≡ true
unfolding fits_left is_item
item_comma Whole h = refl
item_comma (By q i) h = let l = leb-true 111 i h in of_fit i 110 _ _ (above (omega (arith, l)))

pub comma_no_item : is_item (By Infixr 110) ≡ false
unfolding is_item
comma_no_item = refl

infixr_is : (f : Fixity) → is_infixr f ≡ true → f ≡ Infixr
infixr_is Infixr h = refl
infixr_is Infix h = absurd (false≢true h)
infixr_is Infixl h = absurd (false≢true h)
infixr_is Prefix h = absurd (false≢true h)
infixr_is Prefixr h = absurd (false≢true h)
infixr_is Postfix h = absurd (false≢true h)
infixr_is Postfixl h = absurd (false≢true h)

pub separates_is : (o : Oper) → separates o ≡ true → (o.fixity ≡ Infixr) × (o.number ≡ 110)
unfolding separates
separates_is o h =
    let a = and_parts (o.comma && nat_eq o.number 110) (is_infixr o.fixity) h in
    let b = and_parts o.comma (nat_eq o.number 110) a.0 in
    (infixr_is o.fixity a.1, eqb-true o.number 110 b.1)

-- an operand on the right that the next operator of the same number does not take is of that number too
pub level_of : (q p o : Fixity) (k n m : ℕ) → n ≡ m → fits_right (By q k) p n ≡ true → fits_left (By q k) o m ≡ false → (k ≡ m) × (is_right q ≡ true)
unfolding fits_left fits_right
level_of q p o k n m e h l = go (fit_of _ _ _ _ h)
  where
    go : Fit k n (is_right p) (is_right q) → (k ≡ m) × (is_right q ≡ true)
    go (above a) = absurd (true≢false (sym (of_fit k m (is_left o) (is_left q) (above (omega (arith, a, e)))) ∙ l))
    go (level i a b) = (omega (arith, i, e), b)

-- where one is admitted, the next of the same number that takes it is admitted too
pub right_level : (p o r : Fixity) (n m j : ℕ) → n ≡ m → fits_right (By p n) r j ≡ true → fits_left (By p n) o m ≡ true → fits_right (By o m) r j ≡ true
unfolding fits_left fits_right
right_level p o r n m j e h l = of_fit _ _ _ _ (go (fit_of _ _ _ _ h) (fit_of _ _ _ _ l))
  where
    go : Fit n j (is_right r) (is_right p) → Fit n m (is_left o) (is_left p) → Fit m j (is_right r) (is_right o)
    go (above a) b = above (omega (arith, a, e))
    go (level i a b) (above c) = absurd (omega (arith, c, e))
    go (level i a b) (level c d f) = absurd (no_both p f b)

pub item_level : (p o : Fixity) (n m : ℕ) → n ≡ m → is_item (By p n) ≡ true → is_item (By o m) ≡ true
unfolding is_item
item_level p o n m e h = ap (nat_le 111) (sym e) ∙ h

-- an operator that neither fits on the right nor takes on the left has the same number
pub same_number : (p o : Fixity) (n m : ℕ) → fits_right (By o m) p n ≡ false → fits_left (By p n) o m ≡ false → n ≡ m
unfolding fits_left fits_right
same_number p o n m h k =
    elim (cases_order n m) [
      | inl e ↦ e
      | inr r ↦ elim r [
        | inl l ↦ absurd (true≢false (sym (of_fit m n (is_right p) (is_right o) (above l)) ∙ h))
        | inr l ↦ absurd (true≢false (sym (of_fit n m (is_left o) (is_left p) (above l)) ∙ k))
      ]
    ]

pub postfix_no_right : (f : Fixity) → is_postfix f ≡ true → is_right f ≡ true → ⊥
postfix_no_right Infix h k = false≢true h
postfix_no_right Infixl h k = false≢true h
postfix_no_right Infixr h k = false≢true h
postfix_no_right Prefix h k = false≢true h
postfix_no_right Prefixr h k = false≢true h
postfix_no_right Postfix h k = false≢true k
postfix_no_right Postfixl h k = false≢true k

pub whole_left : (f : Fixity) (n : ℕ) → fits_left Whole f n ≡ true
unfolding fits_left
whole_left f n = refl
