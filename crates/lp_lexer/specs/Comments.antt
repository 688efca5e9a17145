-- Comments of the second form, as a grammar: they nest, and the pairs /* and */ are taken from the left, none shared.
use Rattle.std.specs.Prelude.{◌≡◌, ℕ, suc, ◌+◌, List, ◌∷◌, Bool, false, ◌&&◌, ◌||◌, nat_eq, drop, slice_index}

-- a /* or a */ stands at the front
abbrev pub is_pair : ℕ → List ℕ → Bool
is_pair b bs = (nat_eq b 47 && nat_eq (slice_index bs 0) 42) || (nat_eq b 42 && nat_eq (slice_index bs 0) 47)

-- the first n bytes are the rest of a comment, behind its opening: bytes and whole comments, and then its end
pub data Ends : ℕ → List ℕ → Type 0 where
  ends : (n : ℕ) (bs : List ℕ) → n ≡ 2 → Ends n (42 ∷ 47 ∷ bs)
  byte : (n m b : ℕ) (bs : List ℕ) → n ≡ suc m → is_pair b bs ≡ false → Ends m bs → Ends n (b ∷ bs)
  nested : (n inner m : ℕ) (bs : List ℕ) → n ≡ suc (suc (inner + m)) → Ends inner bs → Ends m (drop inner bs) → Ends n (47 ∷ 42 ∷ bs)
