-- What a side allows, eigenconstant by eigenconstant.
use Rattle.std.proofs.Common.{◌≡◌, ℕ, suc, ◌<◌, ◌≤◌, length, List, [], ◌∷◌, ◌++◌, ◌∙◌, refl, sym, ap, Bool, true, false, Option, Some, nat_eq, ◌||◌, if◌then◌else◌}
use Rattle.std.specs.Prelude.{◌&&◌, nat_le, nat_lt}
use Rattle.std.specs.List.{list_any}
use Rattle.std.proofs.lemmas.Bool.Decides.{nat_tests}
use Rattle.std.proofs.Common.{arith}
use Rattle.lp_model.specs.Patterns.{member}
use Rattle.lp_model.specs.Scan.{Side, allows, allow}
use Rattle.lp_pattern.specs.Settling.{side_index}

eq_sym : (k c : ℕ) → nat_eq c k ≡ nat_eq k c
eq_sym k c = grind (arith, nat_tests)

pub member_is : (k : ℕ) (cs : List ℕ) → list_any (λ c. nat_eq c k) cs ≡ member k cs
member_is k [] = refl
member_is k (c ∷ cs) = λ i. eq_sym k c i || member_is k cs i

pub allow_more : (s : Side) (xs ys : List ℕ) → allow s xs ≡ true → allow s (xs ++ ys) ≡ allow s ys
allow_more s [] ys e = refl
allow_more s (k ∷ xs) ys e = go (allows s k) refl (λ h. allow_more s xs ys h)
  where
    go : (b : Bool) → allows s k ≡ b → (allow s xs ≡ true → allow s (xs ++ ys) ≡ allow s ys) → (allows s k && allow s (xs ++ ys)) ≡ allow s ys
    go true h ih = ap (λ b. b && allow s (xs ++ ys)) h ∙ ih (sym (ap (λ b. b && allow s xs) h) ∙ e)
    go false h ih = absurd (let q : false ≡ true = sym (ap (λ b. b && allow s xs) h) ∙ e in cc)

pub allow_not : (s : Side) (xs ys : List ℕ) (k : ℕ) → allow s xs ≡ true → allows s k ≡ false → allow s (xs ++ k ∷ ys) ≡ false
allow_not s xs ys k e h = allow_more s xs (k ∷ ys) e ∙ ap (λ b. b && allow s ys) h

pub allow_next : (s : Side) (xs : List ℕ) (k : ℕ) → allow s xs ≡ true → allows s k ≡ true → allow s (xs ++ k ∷ []) ≡ true
allow_next s xs k e h = allow_more s xs (k ∷ []) e ∙ ap (λ b. b && true) h

-- a local eigenconstant, and another one
or_true : (a b : Bool) → true ≡ (a || b || true)
or_true true b = refl
or_true false true = refl
or_true false false = refl

or_false : (a b : Bool) → (a || b) ≡ (a || b || false)
or_false true b = refl
or_false false true = refl
or_false false false = refl

pub allows_local : (s : Side) (k : ℕ) → s.pair < k → true ≡ allows s k
allows_local s k l = let e : nat_lt s.pair k ≡ true = grind (arith, nat_tests) in or_true (nat_le k s.level) (member k s.arguments) ∙ ap (λ b. nat_le k s.level || member k s.arguments || b) (sym e)

pub allows_other : (s : Side) (k : ℕ) → k ≤ s.pair → (nat_le k s.level || list_any (λ c. nat_eq c k) s.arguments) ≡ allows s k
allows_other s k l =
    let e : nat_lt s.pair k ≡ false = grind (arith, nat_tests) in
    ap (λ b. nat_le k s.level || b) (member_is k s.arguments) ∙ or_false (nat_le k s.level) (member k s.arguments) ∙ ap (λ b. nat_le k s.level || member k s.arguments || b) (sym e)

pub allows_low : (s : Side) (k : ℕ) → k ≤ s.level → true ≡ allows s k
allows_low s k l = let e : nat_le k s.level ≡ true = grind (arith, nat_tests) in ap (λ b. b || member k s.arguments || nat_lt s.pair k) (sym e)

pub allows_last : (s : Side) (k : ℕ) (r : Bool) → k ≤ s.pair → s.level < k → r ≡ member k s.arguments → r ≡ allows s k
allows_last s k r l m e =
    let f : nat_le k s.level ≡ false = grind (arith, nat_tests) in
    let g : nat_lt s.pair k ≡ false = grind (arith, nat_tests) in
    e ∙ or_false false (member k s.arguments) ∙ (λ i. sym f i || member k s.arguments || sym g i)

-- the index of an eigenconstant is that of one of the side's abstractions
one_below : (b : Bool) (o : Option ℕ) (n m i : ℕ) → (if b then Some n else o) ≡ Some i → n < m → (o ≡ Some i → i < m) → i < m
one_below true o n m i e l f = let same : n ≡ i = cc in omega (arith, same, l)
one_below false o n m i e l f = f e

pub side_below : (cs : List ℕ) (k i : ℕ) → side_index cs k ≡ Some i → i < length cs
side_below [] k i e = absurd (cc)
side_below (c ∷ cs) k i e = one_below (nat_eq k c) (side_index cs k) (length cs) (suc (length cs)) i e (omega arith) (λ q. let below = side_below cs k i q in omega (arith, below))
