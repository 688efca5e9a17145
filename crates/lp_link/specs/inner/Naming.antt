-- The numbers of a copy's names while they are made, one after the other.
use Rattle.std.specs.Prelude.{◌≡◌, ℕ, ◌+◌, ◌<◌, min, Bool, true, false, List, Option, None, Some, drop, ◌++◌}
use Rattle.lp_lemmas.specs.Each.{EachOf}
use Rattle.lp_link.specs.Linked.{numbers_of}

-- the number behind one, as far as 32 bits hold it
abbrev pub more : ℕ → ℕ
more n = min (n + 1) 4294967295

abbrev pub told_or : Option ℕ → ℕ → ℕ
told_or None g = g
told_or (Some n) g = n

abbrev pub next_number : (exported : Bool) → (told : Option ℕ) → (global hidden : ℕ) → ℕ
next_number false o g h = h
next_number true o g h = told_or o g

abbrev pub global_behind : Option ℕ → ℕ → ℕ
global_behind None g = more g
global_behind (Some n) g = g

abbrev pub next_global : (exported : Bool) → (told : Option ℕ) → (global : ℕ) → ℕ
next_global false o g = g
next_global true o g = global_behind o g

abbrev pub next_hidden : (exported : Bool) → (hidden : ℕ) → ℕ
next_hidden false h = more h
next_hidden true h = h

-- they are those of the definition where these are small
abbrev pub AreNumbers : (told : List ℕ → Option ℕ) → (global hidden : ℕ) → List (List ℕ × Bool) → List ℕ → Type 0
AreNumbers told g h es ns = EachOf (λ n. n < 4294967295) (numbers_of told g h es) → ns ≡ numbers_of told g h es

abbrev pub AreNumbersSoFar : (told : List ℕ → Option ℕ) → (global hidden : ℕ) → List (List ℕ × Bool) → (at : ℕ) → List ℕ → (global_now hidden_now : ℕ) → Type 0
AreNumbersSoFar told g h es at ns g' h' = EachOf (λ n. n < 4294967295) (numbers_of told g h es) → ns ++ numbers_of told g' h' (drop at es) ≡ numbers_of told g h es
