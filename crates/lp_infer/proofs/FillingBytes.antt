-- The bytes of a string, one letter after another.
use Rattle.std.proofs.Common.{◌≡◌, ℕ, List, [], ◌∷◌, ◌++◌, Bool, true, false, refl, sym, ap, ◌∙◌}
use Rattle.std.specs.Prelude.{nat_eq, if◌then◌else◌}
use Rattle.std.proofs.lemmas.List.{append_assoc, append-nil}
use Rattle.lp_infer.specs.Texts.{escaped, unescaped}

-- what is still to come, behind a backslash or not
abbrev pub spell_on : Bool → List ℕ → List ℕ
spell_on false bs = unescaped bs
spell_on true [] = []
spell_on true (b ∷ bs) = escaped b ∷ unescaped bs

-- these bytes were made of these letters
abbrev pub AreSpelled : List ℕ → List ℕ → Bool → Type 0
AreSpelled letters bytes behind = (more : List ℕ) → unescaped (letters ++ more) ≡ bytes ++ spell_on behind more

plain_byte : (b : ℕ) (bs : List ℕ) → nat_eq b 92 ≡ false → unescaped (b ∷ bs) ≡ b ∷ unescaped bs
plain_byte b [] e = ap (λ t. if t then [] else (b ∷ [])) e
plain_byte b (c ∷ bs) e = ap (λ t. if t then (escaped c ∷ unescaped bs) else (b ∷ unescaped (c ∷ bs))) e

backslash : (b : ℕ) (bs : List ℕ) → nat_eq b 92 ≡ true → unescaped (b ∷ bs) ≡ spell_on true bs
backslash b [] e = ap (λ t. if t then [] else (b ∷ [])) e
backslash b (c ∷ bs) e = ap (λ t. if t then (escaped c ∷ unescaped bs) else (b ∷ unescaped (c ∷ bs))) e

pub none_spelled : AreSpelled [] [] false
none_spelled = λ more. refl

pub behind_backslash : (letters bytes new : List ℕ) (b : ℕ) → new ≡ bytes ++ escaped b ∷ [] → AreSpelled letters bytes true → AreSpelled (letters ++ b ∷ []) new false
behind_backslash letters bytes new b e S = λ more.
    ap unescaped (append_assoc letters (b ∷ []) more) ∙ S (b ∷ more) ∙ sym (append_assoc bytes (escaped b ∷ []) (unescaped more)) ∙ ap (λ l. l ++ unescaped more) (sym e)

pub at_backslash : (letters bytes : List ℕ) (b : ℕ) → nat_eq b 92 ≡ true → AreSpelled letters bytes false → AreSpelled (letters ++ b ∷ []) bytes true
at_backslash letters bytes b e S = λ more. ap unescaped (append_assoc letters (b ∷ []) more) ∙ S (b ∷ more) ∙ ap (λ l. bytes ++ l) (backslash b more e)

pub at_letter : (letters bytes new : List ℕ) (b : ℕ) → nat_eq b 92 ≡ false → new ≡ bytes ++ b ∷ [] → AreSpelled letters bytes false → AreSpelled (letters ++ b ∷ []) new false
at_letter letters bytes new b e f S = λ more.
    ap unescaped (append_assoc letters (b ∷ []) more) ∙ S (b ∷ more) ∙ ap (λ l. bytes ++ l) (plain_byte b more e) ∙ sym (append_assoc bytes (b ∷ []) (unescaped more)) ∙ ap (λ l. l ++ unescaped more) (sym f)

none_left : (behind : Bool) → spell_on behind [] ≡ []
none_left true = refl
none_left false = refl

pub all_spelled : (letters bytes : List ℕ) (behind : Bool) → AreSpelled letters bytes behind → bytes ≡ unescaped letters
all_spelled letters bytes behind S = sym (append-nil bytes) ∙ ap (λ l. bytes ++ l) (sym (none_left behind)) ∙ sym (S []) ∙ ap unescaped (append-nil letters)
