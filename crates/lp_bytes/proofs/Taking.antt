-- What is read is spelled so.
use Rattle.std.proofs.Common.{◌≡◌, ℕ, zero, suc, ◌+◌, ◌^◌, ◌<◌, ◌≤◌, Bool, true, false, cond, ltb, eqb, ℤ, List, [], ◌∷◌, ◌++◌, length, get_or, take, drop, Result, Ok, Err, refl, sym, ap, subst, ◌∙◌, append_assoc, arith, inl, inr, ◌⊎◌}
use Rattle.std.specs.Str.{bytes_eq}
use Rattle.lp_lemmas.proofs.Booleans.{bytes_eq_true}
use Rattle.std.specs.Int.{w16, w32, w64, to_le_bytes, from_le_bytes, cast_unsigned, cast_signed}
use Rattle.std.specs.List.{flat_map, AllByRecursion}
use Rattle.std.proofs.lemmas.Bool.{cases_lt, ltb-false, eqb-true}
use Rattle.std.proofs.lemmas.Int.{of_z-to_z}
use Rattle.std.proofs.lemmas.List.{append-nil, nil_from_length, take-append-drop, length-take, length-append, get_or-drop, get_or-take, get_or_past}
use Rattle.std.proofs.lemmas.Grind.{flat_map-append}
use Rattle.std.proofs.lemmas.Nat.{le_bytes_2, le_bytes_4, le_bytes_8}
use Rattle.lp_bytes.specs.declared.fault.Fault.{Fault}
use Rattle.lp_bytes.specs.declared.fault.Fault.TheVariants.{Truncated, BadMagic, Trailing, Limit}
use Rattle.lp_base.specs.declared.limit.Limit.TheVariants.{Image}
use Rattle.lp_bytes.specs.Numbers.{spelled_two, spelled_four, spelled_integer, spelled_long_text}
use Rattle.lp_bytes.specs.Spellable.{AreWhole}
use Rattle.lp_bytes.specs.Reading.{Left, left, Read, ◌>>=◌, field, byte_at, two_at, four_at, integer_at, long_text_at, each_at, nested_at, file_of, magic_at, all_read}

abbrev pub IsBytes : List ℕ → Type 0
IsBytes bs = (i : ℕ) → get_or bs i 0 < 256

IsBytes-drop : (n : ℕ) (bs : List ℕ) → IsBytes bs → IsBytes (drop n bs)
IsBytes-drop n bs h i = rw get_or-drop (h (n + i))

IsBytes-take : (n : ℕ) (bs : List ℕ) → IsBytes bs → IsBytes (take n bs)
IsBytes-take n bs h i =
    elim (cases_lt i n) [
      | inl lt ↦ rw (get_or-take n bs i 0 lt) (h i)
      | inr le ↦ rw (get_or_past (take n bs) i 0 (omega (arith, length-take n bs))) (omega arith)
    ]

-- the value of a step that did not fail
pub bind_ok : {A B : Type 0} (r : Result A Fault) (f : A → Result B Fault) (y : B) → (r >>= f) ≡ Ok y → (x : A) × (r ≡ Ok x) × (f x ≡ Ok y)
bind_ok (Ok x) f y e = (x, refl, e)
bind_ok (Err d) f y e = absurd cc

abbrev done : {A : Type 0} → A → Result A Fault
done x = Ok x

pub ok_is : {A : Type 0} (x y : A) → done x ≡ done y → x ≡ y
ok_is x y e = cc

-- a test that did not fail, and one that held
pub guard_ok : {A : Type 0} (b : Bool) (d : Fault) (r : Result A Fault) (y : A) → cond b (Err d) r ≡ Ok y → (b ≡ false) × (r ≡ Ok y)
guard_ok true d r y e = absurd cc
guard_ok false d r y e = (refl, e)

pub held : {A : Type 0} (b : Bool) (r : Result A Fault) (d : Fault) (y : A) → cond b r (Err d) ≡ Ok y → (b ≡ true) × (r ≡ Ok y)
held true r d y e = (refl, e)
held false r d y e = absurd cc

-- which way a test went
pub chosen : {A : Type 0} (b : Bool) (x y z : A) → cond b x y ≡ z → ((b ≡ true) × (x ≡ z)) ⊎ ((b ≡ false) × (y ≡ z))
chosen true x y z e = inl (refl, e)
chosen false x y z e = inr (refl, e)

-- these bytes were taken from the front
pub record Takes (s : Left) (text : List ℕ) (t : Left) : Type 0 where
  pub parts : s.rest ≡ text ++ t.rest
  pub bytes : IsBytes t.rest

pub takes_none : (s : Left) → IsBytes s.rest → Takes s [] s
takes_none s h = record { parts = refl; bytes = h }

pub takes_then : (s : Left) (x : List ℕ) (t : Left) (y : List ℕ) (u : Left) → Takes s x t → Takes t y u → Takes s (x ++ y) u
takes_then s x t y u p q = record { parts = p.parts ∙ ap (λ z. x ++ z) q.parts ∙ sym (append_assoc x y u.rest); bytes = q.bytes }

pub takes_as : (s : Left) (x y : List ℕ) (t : Left) → x ≡ y → Takes s x t → Takes s y t
takes_as s x y t e p = subst (λ z. Takes s z t) e p

-- ---- numbers

pub field_takes : (n : ℕ) (s : Left) (x : List ℕ) (t : Left) → IsBytes s.rest → field n s ≡ Ok (x, t) → Takes s x t × (length x ≡ n) × IsBytes x
unfolding field
field_takes n s x t h e =
    let g = guard_ok (ltb (length s.rest) n) (Truncated s.at) (Ok (take n s.rest, left (s.at + n) (drop n s.rest))) (x, t) e in
    let long : n ≤ length s.rest = ltb-false _ _ g.0 in
    let same = ok_is (take n s.rest, left (s.at + n) (drop n s.rest)) (x, t) g.1 in
    subst (λ (p : List ℕ × Left). Takes s p.0 p.1 × (length p.0 ≡ n) × IsBytes p.0) same
    (record { parts = sym (take-append-drop n s.rest); bytes = IsBytes-drop n s.rest h }, omega (arith, length-take n s.rest), IsBytes-take n s.rest h)

single : (x : List ℕ) → length x ≡ 1 → x ≡ get_or x 0 0 ∷ []
single [] e = absurd (omega (arith, e))
single (b ∷ []) e = refl
single (b ∷ c ∷ x) e = absurd (omega (arith, e))

pub byte_takes : (s : Left) (b : ℕ) (t : Left) → IsBytes s.rest → byte_at s ≡ Ok (b, t) → Takes s (b ∷ []) t × (b < 256)
unfolding byte_at
byte_takes s b t h e =
    let a = bind_ok (field 1 s) (λ x. Ok (get_or x.0 0 0, x.1)) (b, t) e in
    let f = field_takes 1 s a.0.0 a.0.1 h a.1 in
    subst (λ (p : ℕ × Left). Takes s (p.0 ∷ []) p.1 × (p.0 < 256)) (ok_is (get_or a.0.0 0 0, a.0.1) (b, t) a.2) (takes_as s a.0.0 (get_or a.0.0 0 0 ∷ []) a.0.1 (single a.0.0 f.1) f.0, f.2 0)

pub two_takes : (s : Left) (n : ℕ) (t : Left) → IsBytes s.rest → two_at s ≡ Ok (n, t) → Takes s (spelled_two n) t × (n < 2 ^ 16)
unfolding two_at
two_takes s n t h e =
    let a = bind_ok (field 2 s) (λ x. Ok (from_le_bytes w16 x.0, x.1)) (n, t) e in
    let f = field_takes 2 s a.0.0 a.0.1 h a.1 in
    subst (λ (p : ℕ × Left). Takes s (spelled_two p.0) p.1 × (p.0 < 2 ^ 16)) (ok_is (from_le_bytes w16 a.0.0, a.0.1) (n, t) a.2)
    (takes_as s a.0.0 (spelled_two (from_le_bytes w16 a.0.0)) a.0.1 (sym (le_bytes_2 a.0.0 (from_le_bytes w16 a.0.0) f.1 f.2 refl)) f.0, omega (arith, f.2 0, f.2 1))

pub four_takes : (s : Left) (n : ℕ) (t : Left) → IsBytes s.rest → four_at s ≡ Ok (n, t) → Takes s (spelled_four n) t × (n < 2 ^ 32)
unfolding four_at
four_takes s n t h e =
    let a = bind_ok (field 4 s) (λ x. Ok (from_le_bytes w32 x.0, x.1)) (n, t) e in
    let f = field_takes 4 s a.0.0 a.0.1 h a.1 in
    subst (λ (p : ℕ × Left). Takes s (spelled_four p.0) p.1 × (p.0 < 2 ^ 32)) (ok_is (from_le_bytes w32 a.0.0, a.0.1) (n, t) a.2)
    (takes_as s a.0.0 (spelled_four (from_le_bytes w32 a.0.0)) a.0.1 (sym (le_bytes_4 a.0.0 (from_le_bytes w32 a.0.0) f.1 f.2 refl)) f.0, omega (arith, f.2 0, f.2 1, f.2 2, f.2 3))

pub integer_takes : (s : Left) (z : ℤ) (t : Left) → IsBytes s.rest → integer_at s ≡ Ok (z, t) → Takes s (spelled_integer z) t × (cast_signed w64 (cast_unsigned w64 z) ≡ z) × (cast_unsigned w64 z < 2 ^ 64)
unfolding integer_at
integer_takes s z t h e =
    let a = bind_ok (field 8 s) (λ x. Ok (cast_signed w64 (from_le_bytes w64 x.0), x.1)) (z, t) e in
    let f = field_takes 8 s a.0.0 a.0.1 h a.1 in
    let n = from_le_bytes w64 a.0.0 in
    let lt : n < 2 ^ 64 = omega (arith, f.2 0, f.2 1, f.2 2, f.2 3, f.2 4, f.2 5, f.2 6, f.2 7) in
    let same : cast_unsigned w64 (cast_signed w64 n) ≡ n = of_z-to_z w64 n lt in
    subst (λ (p : ℤ × Left). Takes s (spelled_integer p.0) p.1 × (cast_signed w64 (cast_unsigned w64 p.0) ≡ p.0) × (cast_unsigned w64 p.0 < 2 ^ 64)) (ok_is (cast_signed w64 n, a.0.1) (z, t) a.2)
    (takes_as s a.0.0 (spelled_integer (cast_signed w64 n)) a.0.1 (sym (le_bytes_8 a.0.0 n f.1 f.2 refl) ∙ ap (λ m. to_le_bytes w64 m) (sym same)) f.0, ap (cast_signed w64) same, omega (arith, same, lt))

pub long_text_takes : (s : Left) (x : List ℕ) (t : Left) → IsBytes s.rest → long_text_at s ≡ Ok (x, t) → Takes s (spelled_long_text x) t × (length x < 2 ^ 32)
unfolding long_text_at spelled_long_text
long_text_takes s x t h e =
    let a = bind_ok (four_at s) (λ n. field n.0 n.1) (x, t) e in
    let p = four_takes s a.0.0 a.0.1 h a.1 in
    let q = field_takes a.0.0 a.0.1 x t p.0.bytes a.2 in
    (takes_then s (spelled_four (length x)) a.0.1 x t (takes_as s (spelled_four a.0.0) (spelled_four (length x)) a.0.1 (ap (λ m. spelled_four m) (sym q.1)) p.0) q.0, omega (arith, q.1, p.1))

-- ---- lists

-- so many entries, each of which is spelled and has P
pub each_take : {A : Type 0} (f : List A → Left → Read A) (spell : A → List ℕ) (P : A → Type 0) → ((before : List A) (s : Left) (x : A) (t : Left) → IsBytes s.rest → f before s ≡ Ok (x, t) → Takes s (spell x) t × P x)
    → (before : List A) (n : ℕ) (s : Left) (ys : List A) (t : Left) → IsBytes s.rest → each_at f before n s ≡ Ok (ys, t) → (xs : List A) × (ys ≡ before ++ xs) × Takes s (flat_map spell xs) t × (length xs ≡ n) × AllByRecursion P xs
unfolding each_at
each_take {A = A} f spell P k before zero s ys t h e =
    subst (λ (p : List A × Left). (xs : List A) × (p.0 ≡ before ++ xs) × Takes s (flat_map spell xs) p.1 × (length xs ≡ 0) × AllByRecursion P xs) (ok_is (before, s) (ys, t) e)
    ([], sym (append-nil before), takes_none s h, refl, tt)
each_take {A = A} f spell P k before (suc n) s ys t h e =
    let a = bind_ok (f before s) (λ x. each_at f (before ++ x.0 ∷ []) n x.1) (ys, t) e in
    let p = k before s a.0.0 a.0.1 h a.1 in
    let q = each_take f spell P k (before ++ a.0.0 ∷ []) n a.0.1 ys t p.0.bytes a.2 in
    (a.0.0 ∷ q.0, q.1 ∙ append_assoc before (a.0.0 ∷ []) q.0, takes_then s (spell a.0.0) a.0.1 (flat_map spell q.0) t p.0 q.2, ap suc q.3, (p.1, q.4))

-- parts that are whole: each one is of the sort that comes next
-- (below says of which sorts the parts are that a part asks for)
pub nested_take : {S A : Type 0} (f : S → Left → Read A) (below : A → List S) (spell : A → List ℕ) (P : S → A → Type 0) → ((sort : S) (s : Left) (x : A) (t : Left) → IsBytes s.rest → f sort s ≡ Ok (x, t) → Takes s (spell x) t × (0 < length (spell x)) × P sort x)
    → (before : List A) (n : ℕ) (to_come : List S) (s : Left) (ys : List A) (t : Left) → IsBytes s.rest → length s.rest < n → nested_at f below before n to_come s ≡ Ok (ys, t)
    → (xs : List A) × (ys ≡ before ++ xs) × Takes s (flat_map spell xs) t × AreWhole below P to_come xs
unfolding nested_at
nested_take f below spell P k before zero to_come s ys t h lt e = absurd (omega (arith, lt))
nested_take {A = A} f below spell P k before (suc n) [] s ys t h lt e =
    subst (λ (p : List A × Left). (xs : List A) × (p.0 ≡ before ++ xs) × Takes s (flat_map spell xs) p.1 × AreWhole below P [] xs) (ok_is (before, s) (ys, t) e)
    ([], sym (append-nil before), takes_none s h, tt)
nested_take f below spell P k before (suc n) (sort ∷ to_come) s ys t h lt e =
    let a = bind_ok (f sort s) (λ x. nested_at f below (before ++ x.0 ∷ []) n (below x.0 ++ to_come) x.1) (ys, t) e in
    let p = k sort s a.0.0 a.0.1 h a.1 in
    let total : length s.rest ≡ length (spell a.0.0) + length a.0.1.rest = ap length p.0.parts ∙ length-append (spell a.0.0) a.0.1.rest in
    let q = nested_take f below spell P k (before ++ a.0.0 ∷ []) n (below a.0.0 ++ to_come) a.0.1 ys t p.0.bytes (omega (arith, total, p.1, lt)) a.2 in
    (a.0.0 ∷ q.0, q.1 ∙ append_assoc before (a.0.0 ∷ []) q.0, takes_then s (spell a.0.0) a.0.1 (flat_map spell q.0) t p.0 q.2, (p.2, q.3))

-- ---- files

pub magic_takes : (m : List ℕ) (s t : Left) → IsBytes s.rest → magic_at m s ≡ Ok t → Takes s m t
unfolding magic_at
magic_takes m s t h e =
    let a = bind_ok (field 4 s) (λ x. cond (bytes_eq x.0 m) (Ok x.1) (Err BadMagic)) t e in
    let g = held (bytes_eq a.0.0 m) (Ok a.0.1) BadMagic t a.2 in
    let f = field_takes 4 s a.0.0 a.0.1 h a.1 in
    subst (λ u. Takes s m u) (ok_is a.0.1 t g.1) (takes_as s a.0.0 m a.0.1 (bytes_eq_true a.0.0 m g.0) f.0)

pub all_is_read : (s : Left) → all_read s ≡ Ok tt → s.rest ≡ []
unfolding all_read
all_is_read s e =
    let g = guard_ok (ltb 0 (length s.rest)) (Trailing s.at) (Ok tt) tt e in
    let le : length s.rest ≤ 0 = ltb-false _ _ g.0 in
    nil_from_length s.rest (omega (arith, le))

pub file_is : (bs : List ℕ) (s : Left) → file_of bs ≡ Ok s → (s ≡ left 0 bs) × (length bs ≤ 16777216)
unfolding file_of
file_is bs s e =
    let g = guard_ok (ltb 16777216 (length bs)) (Limit Image) (Ok (left 0 bs)) s e in
    (sym (ok_is (left 0 bs) s g.1), ltb-false _ _ g.0)
