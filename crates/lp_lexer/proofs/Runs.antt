-- A run is the longest front of its class, and a symbol the longest front of symbol bytes in which no /* begins.
use Rattle.std.proofs.Common.{◌≡◌, ℕ, suc, zero, ◌<◌, ◌≤◌, List, [], ◌∷◌, ◌++◌, length, drop, take, Bool, true, false, ◌&&◌, nat_eq, refl, ap, arith}
use Rattle.std.proofs.lemmas.Bool.{and_from, and_parts, cond_both}
use Rattle.lp_lexer.specs.declared.class.Class.{Class}
use Rattle.lp_lexer.specs.declared.class.Class.TheVariants.{Symbol}
use Rattle.lp_lexer.specs.Bytes.{is_in, run}
use Rattle.lp_lexer.specs.Forms.{are_in, is_led}
use Rattle.lp_lexer.specs.Front.{symbol_len}
use Rattle.lp_lexer.specs.Stands.{opens}

pub run_form : (k : Class) (bs : List ℕ) → are_in k (take (run k bs) bs) ≡ true
run_form k [] = refl
run_form k (b ∷ bs) = cond_both (is_in k b) (suc (run k bs)) 0 (λ n. are_in k (take n (b ∷ bs)) ≡ true) (λ e. and_from (is_in k b) _ e (run_form k bs)) (λ _. refl)

pub run_longest : (k : Class) (bs : List ℕ) (m : ℕ) → m ≤ length bs → are_in k (take m bs) ≡ true → m ≤ run k bs
run_longest k bs zero h e = omega arith
run_longest k [] (suc m) h e = absurd (omega arith)
run_longest k (b ∷ bs) (suc m) h e =
    let p = and_parts (is_in k b) (are_in k (take m bs)) e in
    let r = run_longest k bs m (omega arith) p.1 in
    rw (p.0) (omega arith)

-- led by one class, in another
pub led_form : (k c : Class) (b : ℕ) (bs : List ℕ) → is_in k b ≡ true → is_in c b ≡ true → is_led k c (take (run c (b ∷ bs)) (b ∷ bs)) ≡ true
led_form k c b bs e f = rw f (and_from (is_in k b) _ e (run_form c bs))

pub led_longest : (k c : Class) (b : ℕ) (bs : List ℕ) (m : ℕ) → is_in c b ≡ true → m ≤ length (b ∷ bs) → is_led k c (take m (b ∷ bs)) ≡ true → m ≤ run c (b ∷ bs)
led_longest k c b bs zero f h e = omega arith
led_longest k c b bs (suc m) f h e =
    let p = and_parts (is_in k b) (are_in c (take m bs)) e in
    let r = run_longest c bs m (omega arith) p.1 in
    rw f (omega arith)

pub led_are : (k : Class) (bs : List ℕ) → is_led k k bs ≡ true → are_in k bs ≡ true
led_are k [] h = absurd (cc)
led_are k (b ∷ bs) h = h

-- a run ends at a byte of another class, and goes on over bytes of its own
pub run_ends : (k : Class) (bs q : List ℕ) (x : ℕ) → is_in k x ≡ false → are_in k bs ≡ true → run k (bs ++ x ∷ q) ≡ length bs
run_ends k [] q x e h = rw e refl
run_ends k (b ∷ bs) q x e h =
    let p = and_parts (is_in k b) (are_in k bs) h in
    rw (p.0) (ap suc (run_ends k bs q x e p.1))

pub run_over : (k : Class) (bs q : List ℕ) → are_in k bs ≡ true → length bs ≤ run k (bs ++ q)
run_over k [] q h = omega arith
run_over k (b ∷ bs) q h =
    let p = and_parts (is_in k b) (are_in k bs) h in
    let r = run_over k bs q p.1 in
    rw (p.0) (omega arith)

-- no /* begins in a symbol, at its last byte neither
abbrev pub Apart : ℕ → List ℕ → Type 0
Apart n bs = (i : ℕ) → i < n → opens (drop i bs) ≡ false

symbol_form : (bs : List ℕ) → are_in Symbol (take (symbol_len bs) bs) ≡ true
symbol_form [] = refl
symbol_form (b ∷ []) = cond_both (is_in Symbol b) 1 0 (λ n. are_in Symbol (take n (b ∷ [])) ≡ true) (λ e. and_from (is_in Symbol b) true e refl) (λ _. refl)
symbol_form (b ∷ c ∷ bs) =
    let P : ℕ → Type 0 = λ n. are_in Symbol (take n (b ∷ c ∷ bs)) ≡ true in
    cond_both (nat_eq b 47 && nat_eq c 42) 0 _ P (λ _. refl) (λ _. cond_both (is_in Symbol b) (suc (symbol_len (c ∷ bs))) 0 P (λ e. and_from (is_in Symbol b) _ e (symbol_form (c ∷ bs))) (λ _. refl))

pub symbol_led : (b : ℕ) (bs : List ℕ) → 0 < symbol_len (b ∷ bs) → is_led Symbol Symbol (take (symbol_len (b ∷ bs)) (b ∷ bs)) ≡ true
symbol_led b bs h = go (symbol_len (b ∷ bs)) h (symbol_form (b ∷ bs))
  where
    go : (n : ℕ) → 0 < n → are_in Symbol (take n (b ∷ bs)) ≡ true → is_led Symbol Symbol (take n (b ∷ bs)) ≡ true
    go zero h e = absurd (omega (arith, h))
    go (suc n) h e = e

-- a symbol of one byte more
more_apart : (n b : ℕ) (bs : List ℕ) → opens (b ∷ bs) ≡ false → Apart n bs → Apart (suc n) (b ∷ bs)
more_apart n b bs e h zero l = e
more_apart n b bs e h (suc i) l = h i (omega arith)

none_apart : (bs : List ℕ) → Apart 0 bs
none_apart bs i l = absurd (omega (arith, l))

no_second : (b : ℕ) → (nat_eq b 47 && false) ≡ false
no_second b = go (nat_eq b 47)
  where
    go : (t : Bool) → (t && false) ≡ false
    go true = refl
    go false = refl

pub symbol_apart : (bs : List ℕ) → Apart (symbol_len bs) bs
symbol_apart [] = none_apart []
symbol_apart (b ∷ []) = cond_both (is_in Symbol b) 1 0 (λ n. Apart n (b ∷ [])) (λ _. more_apart 0 b [] (no_second b) (none_apart [])) (λ _. none_apart (b ∷ []))
symbol_apart (b ∷ c ∷ bs) =
    let P : ℕ → Type 0 = λ n. Apart n (b ∷ c ∷ bs) in
    cond_both (nat_eq b 47 && nat_eq c 42) 0 _ P (λ _. none_apart (b ∷ c ∷ bs)) (λ f. cond_both (is_in Symbol b) (suc (symbol_len (c ∷ bs))) 0 P (λ _. more_apart _ b (c ∷ bs) f (symbol_apart (c ∷ bs))) (λ _. none_apart (b ∷ c ∷ bs)))

less_apart : (n b : ℕ) (bs : List ℕ) → Apart (suc n) (b ∷ bs) → Apart n bs
less_apart n b bs h i l = h (suc i) (omega arith)

first_apart : (n b : ℕ) (bs : List ℕ) → Apart (suc n) (b ∷ bs) → opens (b ∷ bs) ≡ false
first_apart n b bs h = h 0 (omega arith)

pub symbol_longest : (bs : List ℕ) (m : ℕ) → m ≤ length bs → are_in Symbol (take m bs) ≡ true → Apart m bs → m ≤ symbol_len bs
symbol_longest bs zero h e a = omega arith
symbol_longest [] (suc m) h e a = absurd (omega arith)
symbol_longest (b ∷ []) (suc zero) h e a = let p = and_parts (is_in Symbol b) true e in rw (p.0) (omega arith)
symbol_longest (b ∷ []) (suc (suc m)) h e a = absurd (omega arith)
symbol_longest (b ∷ c ∷ bs) (suc m) h e a =
    let p = and_parts (is_in Symbol b) (are_in Symbol (take m (c ∷ bs))) e in
    let r = symbol_longest (c ∷ bs) m (omega arith) p.1 (less_apart m b (c ∷ bs) a) in
    let f : (nat_eq b 47 && nat_eq c 42) ≡ false = first_apart m b (c ∷ bs) a in
    rw (f, p.0) (omega arith)
