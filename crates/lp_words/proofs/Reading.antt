-- The reading of words: numbers, lone dashes, and words that are no command.
use Rattle.std.proofs.Common.{◌≡◌, ◌≢◌, ℕ, ◌+◌, ◌<◌, ◌≤◌, ◌^◌, List, [], ◌∷◌, length, map, drop, inl, inr, Option, None, refl, sym, ap, ◌∙◌, arith, rules, Bool, true, false, string_bytes, slice_index_or, codes, nat_le}
use Rattle.std.specs.Global.{Global}
use Rattle.std.specs.Prelude.{Result, Ok, String, if◌then◌else◌}
use Rattle.std.specs.Result.{result_ok}
use Rattle.std.specs.List.{list_all}
use Rattle.std.specs.Str.{bytes_eq}
use Rattle.std.specs.Str.Parse.{ParsesUnsigned, digits_value}
use Rattle.std.proofs.lemmas.Bool.{le-leb}
use Rattle.std.proofs.lemmas.List.{at_drop_more, at_drop_all}
use Rattle.std.proofs.lemmas.Str.Parse.{IsDigitsTest, IsNumeralModel, numerals_by_value, parse_gives, digits_value_short}
use Rattle.clap.specs.Words.{HasKind, Kinds, kind_of}
use Rattle.clap.specs.declared.error.Error.{Error}
use Rattle.clap.specs.declared.error.kind.ErrorKind.TheVariants as kind
use Rattle.lp_words.specs.Asked.{none_at}
use Rattle.lp_words.specs.Words.{has_lone_dash, is_digit, number_of}

-- words that are refused for another reason than memory are no command
pub refused : {X : Type 0} (kinds : Kinds) (e : Error) (o : Option X) → HasKind kinds e → kind_of e ≢ kind.OutOfMemory → none_at kinds o ≡ None
refused [] e o (inl m) h = absurd (h m)
refused [] e o (inr a) h = absurd a
refused (k ∷ ks) e o has h = refl

are_digits : IsDigitsTest (λ ds. list_all is_digit ds ≡ true)
are_digits = search rules

numerals : IsNumeralModel (λ ds. list_all is_digit ds ≡ true) (digits_value 10)
numerals = numerals_by_value (λ ds. list_all is_digit ds ≡ true) are_digits

-- 1 to 9 digits are read as the number that they write
pub number_read : {E : Type 0} (text : List ℕ) (r : Result ℕ E) (o : Option ℕ) → ParsesUnsigned 32 10 text r → o ≡ result_ok r → 1 ≤ length text → length text ≤ 9 → list_all is_digit text ≡ true → o ≡ number_of text
unfolding number_of
number_read text r o h is some few all =
    let small : digits_value 10 text < 10 ^ 9 = digits_value_short numerals text 9 all few in
    let room : 10 ^ 9 ≤ 2 ^ 32 = omega arith in
    let gives : r ≡ Ok (digits_value 10 text) = parse_gives numerals 32 text r h all (omega arith) (omega arith) in
    let at : nat_le 1 (length text) ≡ true = le-leb 1 (length text) some in
    let most : nat_le (length text) 9 ≡ true = le-leb (length text) 9 few in
    is ∙ ap result_ok gives ∙ sym (rw (at, most, all) refl)

-- one word further
dash_step : (words : List (String Global)) (i : ℕ) (w : String Global) → i < length words → w ≡ slice_index_or words i w
    → has_lone_dash (map string_bytes (drop i words)) ≡ (if bytes_eq (string_bytes w) (codes "--") then false else (if bytes_eq (string_bytes w) (codes "-") then true else has_lone_dash (map string_bytes (drop (i + 1) words))))
unfolding has_lone_dash
dash_step words i w l e =
    at_drop_more (λ ws. has_lone_dash (map string_bytes ws)) words i w l
    ∙ ap (λ v. if bytes_eq (string_bytes v) (codes "--") then false else (if bytes_eq (string_bytes v) (codes "-") then true else has_lone_dash (map string_bytes (drop (i + 1) words)))) (sym e)

module _ (words : List (String Global)) (i : ℕ) (w : String Global) (b : List ℕ) (l : i < length words) (e : w ≡ slice_index_or words i w) (same : b ≡ string_bytes w) where
  pub dash_over : bytes_eq b (codes "--") ≡ true → has_lone_dash (map string_bytes (drop i words)) ≡ false
  dash_over t = dash_step words i w l e ∙ ap (λ (x : Bool). if x then false else (if bytes_eq (string_bytes w) (codes "-") then true else has_lone_dash (map string_bytes (drop (i + 1) words)))) (ap (λ x. bytes_eq x (codes "--")) (sym same) ∙ t)

  pub dash_on : bytes_eq b (codes "--") ≡ false → bytes_eq b (codes "-") ≡ false → has_lone_dash (map string_bytes (drop i words)) ≡ has_lone_dash (map string_bytes (drop (i + 1) words))
  dash_on f g =
      dash_step words i w l e
      ∙ ap (λ (x : Bool). if x then false else (if bytes_eq (string_bytes w) (codes "-") then true else has_lone_dash (map string_bytes (drop (i + 1) words)))) (ap (λ x. bytes_eq x (codes "--")) (sym same) ∙ f)
      ∙ ap (λ (x : Bool). if x then true else has_lone_dash (map string_bytes (drop (i + 1) words))) (ap (λ x. bytes_eq x (codes "-")) (sym same) ∙ g)

  pub dash_found : bytes_eq b (codes "--") ≡ false → bytes_eq b (codes "-") ≡ true → has_lone_dash (map string_bytes (drop i words)) ≡ true
  dash_found f g =
      dash_step words i w l e
      ∙ ap (λ (x : Bool). if x then false else (if bytes_eq (string_bytes w) (codes "-") then true else has_lone_dash (map string_bytes (drop (i + 1) words)))) (ap (λ x. bytes_eq x (codes "--")) (sym same) ∙ f)
      ∙ ap (λ (x : Bool). if x then true else has_lone_dash (map string_bytes (drop (i + 1) words))) (ap (λ x. bytes_eq x (codes "-")) (sym same) ∙ g)

pub dash_end : (words : List (String Global)) (i : ℕ) → length words ≤ i → has_lone_dash (map string_bytes (drop i words)) ≡ false
unfolding has_lone_dash
dash_end words i l = at_drop_all (λ ws. has_lone_dash (map string_bytes ws)) words i l
