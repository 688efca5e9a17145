-- Text behind text.
use Rattle.std.proofs.Common.{◌≡◌, ℕ, ◌+◌, ◌≤◌, ◌<◌, Bool, true, false, cond, ltb, List, [], ◌++◌, length, Option, Some, None, Result, Ok, Err, refl, sym, ap, ◌∙◌, append_assoc, arith, inl, inr}
use Rattle.std.specs.Prelude.{OnOk}
use Rattle.std.proofs.lemmas.Bool.{le-ltb, lt-ltb, cases_lt}
use Rattle.std.proofs.lemmas.List.{append-nil, length-append}
use Rattle.lp_bytes.specs.declared.written.Writer.{Writer}
use Rattle.lp_bytes.specs.Writing.{limited, more, text_of}

too_long : (bytes : List ℕ) → 16777216 < length bytes → limited bytes ≡ None
too_long bytes lt = ap (λ b. cond b None (Some bytes)) (lt-ltb 16777216 (length bytes) lt)

short : (bytes : List ℕ) → length bytes ≤ 16777216 → limited bytes ≡ Some bytes
short bytes le = ap (λ b. cond b None (Some bytes)) (le-ltb 16777216 (length bytes) le)

-- two texts, one behind the other, are one text
pub more_more : (s : Option (List ℕ)) (t u : List ℕ) → more (more s t) u ≡ more s (t ++ u)
unfolding more
more_more None t u = refl
more_more (Some b) t u =
    elim (cases_lt 16777216 (length (b ++ t))) [
      | inl lt ↦ ap (λ s. more s u) (too_long (b ++ t) lt) ∙ sym (too_long (b ++ (t ++ u)) (omega (arith, lt, length-append b t, length-append b (t ++ u), length-append t u)))
      | inr le ↦ ap (λ s. more s u) (short (b ++ t) le) ∙ ap limited (append_assoc b t u)
    ]

pub more_then : (a b c : Option (List ℕ)) (t u : List ℕ) → b ≡ more a t → c ≡ more b u → c ≡ more a (t ++ u)
more_then a b c t u e f = f ∙ ap (λ s. more s u) e ∙ more_more a t u

-- the last of two calls
pub more_last : {T E : Type 0} (r : Result T E) (a b c : Option (List ℕ)) (t u : List ℕ) → b ≡ more a t → OnOk r (c ≡ more b u) → OnOk r (c ≡ more a (t ++ u))
more_last (Ok x) a b c t u e f = more_then a b c t u e f
more_last (Err x) a b c t u e f = tt

-- what is longer than a file alone is too much behind anything
pub too_much : (s : Option (List ℕ)) (t : List ℕ) → 16777216 < length t → more s t ≡ None
unfolding more
too_much None t lt = refl
too_much (Some b) t lt = too_long (b ++ t) (omega (arith, lt, length-append b t))

-- a full writer, and one with room
abbrev state : Bool → List ℕ → Option (List ℕ)
state full bytes = cond full None (Some bytes)

pub full_stays : (f : Bool) (b t : List ℕ) → f ≡ true → state f b ≡ more (state f b) t
unfolding more
full_stays true b t e = refl
full_stays false b t e = absurd cc

pub full_now : (f : Bool) (b t : List ℕ) → f ≡ false → 16777216 < length b + length t → ◌≡◌ {A = Option (List ℕ)} None (more (state f b) t)
unfolding more
full_now true b t e lt = absurd cc
full_now false b t e lt = sym (too_long (b ++ t) (omega (arith, lt, length-append b t)))

pub room_left : (f : Bool) (b c t : List ℕ) → f ≡ false → c ≡ b ++ t → length b + length t ≤ 16777216 → state f c ≡ more (state f b) t
unfolding more
room_left true b c t e h le = absurd cc
room_left false b c t e h le = ap Some h ∙ sym (short (b ++ t) (omega (arith, le, length-append b t)))

nothing_more : (f : Bool) (b : List ℕ) → length b ≤ 16777216 → more (state f b) [] ≡ state f b
unfolding more
nothing_more true b le = refl
nothing_more false b le = ap limited (append-nil b) ∙ short b le

pub more_nothing : (w : Writer) → more (text_of w) [] ≡ text_of w
more_nothing w = nothing_more w.full w.bytes.items w.few

-- ---- all of a file

abbrev nothing : Option (List ℕ)
nothing = None

not_both : (bytes : List ℕ) → nothing ≡ Some bytes → ⊥
not_both bytes e = absurd cc

same_bytes : (x y : List ℕ) → ◌≡◌ {A = Option (List ℕ)} (Some x) (Some y) → x ≡ y
same_bytes x y e = cc

pub all_written : (t : Option (List ℕ)) (all bytes : List ℕ) → t ≡ more (Some []) all → t ≡ Some bytes → (bytes ≡ all) × (length bytes ≤ 16777216)
unfolding more
all_written t all bytes e f =
    elim (cases_lt 16777216 (length all)) [
      | inl lt ↦ absurd (not_both bytes (sym (e ∙ too_long all lt) ∙ f))
      | inr le ↦ let same : bytes ≡ all = same_bytes bytes all (sym f ∙ e ∙ short all le) in (same, omega (arith, ap length same, le))
    ]

pub too_many : (t : Option (List ℕ)) (all : List ℕ) → t ≡ more (Some []) all → t ≡ None → 16777216 < length all
unfolding more
too_many t all e f =
    elim (cases_lt 16777216 (length all)) [
      | inl lt ↦ lt
      | inr le ↦ absurd (not_both all (sym f ∙ e ∙ short all le))
    ]
