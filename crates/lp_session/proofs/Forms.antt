-- The form of a line token by token.
use Rattle.std.proofs.Common.{◌≡◌, ℕ, ◌+◌, ◌<◌, ◌≤◌, List, [], ◌∷◌, ◌++◌, length, map, Bool, true, false, nat_lt, get_or, refl, sym, ap, ◌∙◌, arith, add-one}
use Rattle.std.specs.Prelude.{take, drop, if◌then◌else◌, ◌&&◌}
use Rattle.std.proofs.lemmas.List.{take_all, drop_all}
use Rattle.std.proofs.lemmas.Option.{slice_get-get_or, get_or_from_slice_get}
use Rattle.std.specs.Bool.{◌==◌}
use Rattle.std.proofs.lemmas.Bool.{eqb-true}
use Rattle.lp_lemmas.proofs.Lists.{drop_read, take_suc, map_pushed}
use Rattle.lp_lexer.specs.declared.token.Token.{Token}
use Rattle.lp_lexer.specs.declared.token.TokenKind.TheVariants.{Lower}
use Rattle.lp_session.specs.declared.form.Form.{Form}
use Rattle.lp_session.specs.declared.form.Form.TheVariants.{Plain, Printed, Unfit}
use Rattle.lp_session.specs.Form.{piece, is_dot, is_print, is_shown, form_behind, form_of}

-- what an index past the end would read
abbrev pub past_end : Token
past_end = record { kind = Lower; at = record { line = 0; column = 0 }; from = 0; to = 0 }

abbrev pub token_at : List Token → ℕ → Token
token_at tokens at = get_or tokens at past_end

reads : (tokens : List Token) (at : ℕ) → at < length tokens → drop at tokens ≡ token_at tokens at ∷ drop (at + 1) tokens
reads tokens at h = drop_read tokens at (token_at tokens at) h (sym (get_or_from_slice_get tokens at (token_at tokens at) (token_at tokens at) (slice_get-get_or tokens at past_end h)))

pub some_token : (tokens : List Token) → (length tokens == 0) ≡ false → 0 < length tokens
some_token [] h = absurd (cc)
some_token (t ∷ ts) h = omega arith

pub no_token : (line : List ℕ) (tokens : List Token) → (length tokens == 0) ≡ true → Plain ≡ form_of line tokens
unfolding form_of
no_token line [] h = refl
no_token line (t ∷ ts) h = let e = eqb-true (length (t ∷ ts)) 0 h in absurd (omega (arith, e))

lead : (line : List ℕ) (tokens : List Token) → 0 < length tokens → form_of line tokens ≡ (if is_print line (token_at tokens 0) then form_behind line 1 (drop 1 tokens) else Plain)
unfolding form_of
lead line tokens h = ap (form_of line) (reads tokens 0 h)

pub no_print : (line : List ℕ) (tokens : List Token) → 0 < length tokens → is_print line (token_at tokens 0) ≡ false → Plain ≡ form_of line tokens
no_print line tokens h n = sym (lead line tokens h ∙ ap (λ b. if b then form_behind line 1 (drop 1 tokens) else Plain) n)

pub a_print : (line : List ℕ) (tokens : List Token) → 0 < length tokens → is_print line (token_at tokens 0) ≡ true → form_of line tokens ≡ form_behind line 1 (drop 1 tokens)
a_print line tokens h n = lead line tokens h ∙ ap (λ b. if b then form_behind line 1 (drop 1 tokens) else Plain) n

abbrev rest_of : List ℕ → List Token → ℕ → Bool → Bool → Form
rest_of line tokens at shown dot = if shown then form_behind line (at + 1) (drop (at + 1) tokens) else (if dot then Printed at (token_at tokens at).to else Unfit (token_at tokens at).from)

behind : (line : List ℕ) (tokens : List Token) (at : ℕ) → at < length tokens
    → form_behind line at (drop at tokens) ≡ rest_of line tokens at (is_shown line (token_at tokens at)) (nat_lt 1 at && is_dot (token_at tokens at).kind)
unfolding form_behind
behind line tokens at h = ap (form_behind line at) (reads tokens at h)

module _ (line : List ℕ) (tokens : List Token) (at : ℕ) (h : at < length tokens) (i : form_of line tokens ≡ form_behind line at (drop at tokens)) where
  pub a_name : is_shown line (token_at tokens at) ≡ true → form_of line tokens ≡ form_behind line (at + 1) (drop (at + 1) tokens)
  a_name n = i ∙ (behind line tokens at h ∙ ap (λ b. rest_of line tokens at b (nat_lt 1 at && is_dot (token_at tokens at).kind)) n)

  no_name : is_shown line (token_at tokens at) ≡ false → form_of line tokens ≡ rest_of line tokens at false (nat_lt 1 at && is_dot (token_at tokens at).kind)
  no_name n = i ∙ (behind line tokens at h ∙ ap (λ b. rest_of line tokens at b (nat_lt 1 at && is_dot (token_at tokens at).kind)) n)

  pub a_dot : is_shown line (token_at tokens at) ≡ false → (nat_lt 1 at && is_dot (token_at tokens at).kind) ≡ true → Printed at (token_at tokens at).to ≡ form_of line tokens
  a_dot n d = sym (no_name n ∙ ap (rest_of line tokens at false) d)

  pub no_dot : is_shown line (token_at tokens at) ≡ false → (nat_lt 1 at && is_dot (token_at tokens at).kind) ≡ false → Unfit (token_at tokens at).from ≡ form_of line tokens
  no_dot n d = sym (no_name n ∙ ap (rest_of line tokens at false) d)

pub no_end : (line : List ℕ) (tokens : List Token) (at : ℕ) → length tokens ≤ at → form_of line tokens ≡ form_behind line at (drop at tokens) → Unfit (length line) ≡ form_of line tokens
unfolding form_behind
no_end line tokens at h i = sym (i ∙ ap (form_behind line at) (drop_all at tokens h))

abbrev written : List ℕ → Token → List ℕ
written line t = piece line t.from t.to

pub names_more : (line : List ℕ) (tokens : List Token) (at : ℕ) (done all : List (List ℕ)) → at < length tokens
    → done ≡ map (written line) (take at tokens) → all ≡ done ++ written line (token_at tokens at) ∷ [] → all ≡ map (written line) (take (at + 1) tokens)
names_more line tokens at done all h d a =
    a ∙ (ap (λ z. z ++ written line (token_at tokens at) ∷ []) d
    ∙ sym (map_pushed (written line) (take at tokens) (take (at + 1) tokens) (token_at tokens at)
    (ap (λ n. take n tokens) (add-one at) ∙ take_suc tokens at (token_at tokens at) (slice_get-get_or tokens at past_end h))))

pub names_end : (line : List ℕ) (tokens : List Token) (at : ℕ) (all : List (List ℕ)) → length tokens ≤ at → all ≡ map (written line) (take at tokens) → all ≡ map (written line) tokens
names_end line tokens at all h e = e ∙ ap (map (written line)) (take_all at tokens h)
