-- Lists that stand one behind the other, from the left and from the right.
use Rattle.std.proofs.Common.{◌≡◌, ℕ, List, ◌++◌, ◌∙◌, append_assoc}

pub four_lists : (a b c d : List ℕ) → ((a ++ b) ++ c) ++ d ≡ a ++ (b ++ (c ++ d))
four_lists a b c d = append_assoc (a ++ b) c d ∙ append_assoc a b (c ++ d)

pub seven_lists : (a b c d e f g : List ℕ) → (((((a ++ b) ++ c) ++ d) ++ e) ++ f) ++ g ≡ a ++ (b ++ (c ++ (d ++ (e ++ (f ++ g)))))
seven_lists a b c d e f g =
    append_assoc ((((a ++ b) ++ c) ++ d) ++ e) f g ∙ append_assoc (((a ++ b) ++ c) ++ d) e (f ++ g) ∙ append_assoc ((a ++ b) ++ c) d (e ++ (f ++ g)) ∙ four_lists a b c (d ++ (e ++ (f ++ g)))
