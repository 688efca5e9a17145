-- Two loadings of what is held load the same files.
use Rattle.std.proofs.Common.{◌≡◌, ℕ, suc, ◌+◌, ◌<◌, Bool, List, [], ◌∷◌, ◌++◌, Some, length, refl, sym, ap, subst, ◌∙◌, arith}
use Rattle.std.specs.Prelude.{Contains, All, string_bytes}
use Rattle.std.proofs.lemmas.List.{length-map}
use Rattle.std.proofs.lemmas.Option.{same_Some}
use Rattle.std.proofs.lemmas.List.Elements.{All-head, All-tail}
use Rattle.lp_base.specs.Held.{Held}
use Rattle.lp_lexer.specs.Lexis.{HasTokens}
use Rattle.lp_syntax.specs.References.{AreReferences}
use Rattle.lp_syntax.specs.Tokens.{lexeme, lexemes, spot_at}
use Rattle.lp_sig.specs.Refusals.{IsAt}
use Rattle.lp_build.specs.Alike.{AreAlike}
use Rattle.lp_build.specs.Loads.{names_of}
use Rattle.lp_build.specs.Ordered.{Loads, Need, accumulated, asked_by, file_of, is_loaded, is_there, loads_none, named_by, signature}
use Rattle.lp_build.specs.Reads.{AreRead, IsReadFile}
use Rattle.lp_build.specs.Told.{AreLoaded}
use Rattle.lp_build.specs.declared.sources.File.{File}
use Rattle.lp_build.specs.declared.sources.Part.{Part}
use Rattle.lp_build.specs.declared.sources.Part.TheVariants as part
use Rattle.lp_build.specs.declared.sources.Sources.{Sources}
use Rattle.lp_build.specs.declared.sources.Text.{Text}
use Rattle.lp_build.proofs.Saying.{same_modules, same_signatures, same_tokens}

-- files from a number on that are held and were read
abbrev pub AreHeld : Held → (from : ℕ) → List File → Type 0
AreHeld held from [] = Unit {0}
AreHeld held from (f ∷ fs) = (held (string_bytes f.name) ≡ Some f.text.bytes.items) × IsReadFile from f × AreHeld held (suc from) fs

held_from : (held : Held) (from : ℕ) (fs : List File) → All (λ (f : File). held (string_bytes f.name) ≡ Some f.text.bytes.items) fs → ((k : ℕ) (f : File) → IsAt fs k f → IsReadFile (from + k) f) → AreHeld held from fs
held_from held from [] told read = tt
held_from held from (f ∷ fs) told read =
    let first : 0 < suc (length fs) = omega arith in
    let same : from + 0 ≡ from = omega arith in (
      All-head (λ (g : File). held (string_bytes g.name) ≡ Some g.text.bytes.items) f fs told,
      subst (λ n. IsReadFile n f) same (read 0 f (first, refl)),
      held_from held (suc from) fs (All-tail (λ (g : File). held (string_bytes g.name) ≡ Some g.text.bytes.items) f fs told) (λ k g at. let lt = at.0 in let next : from + suc k ≡ suc from + k = omega arith in subst (λ n. IsReadFile n g) next (read (suc k) g (omega (arith, lt), at.1))),
    )

pub all_held : (held : Held) (s : Sources) → AreLoaded (Some held) s → AreRead s → AreHeld held 0 s.files.items
all_held held s told read = held_from held 0 s.files.items told (λ k f at. let same : k ≡ 0 + k = omega arith in subst (λ n. IsReadFile n f) same (read.each k f at))

-- texts with the same bytes name the same
named_alike : (all : Bool) (n : ℕ) (p q : Part) (t u : Text) → p ≡ q → t.bytes.items ≡ u.bytes.items → t.references.accum_sig.items ≡ u.references.accum_sig.items → t.references.accumulate.items ≡ u.references.accumulate.items →
    named_by all p t ≡ named_by all q u
named_alike all n part.Signature part.Signature t u e b s a = ap (λ bs. asked_by signature bs t.references.accum_sig.items) b ∙ ap (asked_by signature u.bytes.items) s
named_alike all n part.Module part.Module t u e b s a =
    ap (λ bs. asked_by signature bs t.references.accum_sig.items ++ asked_by (accumulated all) bs t.references.accumulate.items) b ∙
    ap (λ ws. asked_by signature u.bytes.items ws ++ asked_by (accumulated all) u.bytes.items t.references.accumulate.items) s ∙
    ap (λ ws. asked_by signature u.bytes.items u.references.accum_sig.items ++ asked_by (accumulated all) u.bytes.items ws) a
named_alike all n part.Signature part.Module t u e b s a = absurd (cc)
named_alike all n part.Module part.Signature t u e b s a = absurd (cc)

same_names : (all : Bool) (n : ℕ) (f g : File) → IsReadFile n f → IsReadFile n g → f.part ≡ g.part → f.text.bytes.items ≡ g.text.bytes.items → named_by all f.part f.text ≡ named_by all g.part g.text
same_names all n f g r q p b =
    let tokens = same_tokens g.text.bytes.items f.text.tokens.items g.text.tokens.items (subst (λ x. HasTokens x f.text.tokens.items) b r.text.tokens) q.text.tokens in
    let mine = subst (λ x. AreReferences (spot_at n g.text.bytes.items x) (lexemes g.text.bytes.items x) (length x) f.text.references) tokens
    (subst (λ x. AreReferences (spot_at n x f.text.tokens.items) (lexemes x f.text.tokens.items) (length f.text.tokens.items) f.text.references) b r.text.references) in
    let spot = spot_at n g.text.bytes.items g.text.tokens.items in
    let ls = lexemes g.text.bytes.items g.text.tokens.items in
    let count = length g.text.tokens.items in
    let long : count ≡ length ls = sym (length-map g.text.tokens.items (lexeme g.text.bytes.items)) in
    named_alike all n f.part g.part f.text g.text p b (same_signatures spot ls count f.text.references g.text.references long mine q.text.references) (same_modules spot ls count f.text.references g.text.references long mine q.text.references)

names_push : (fs : List File) (f : File) → names_of (fs ++ f ∷ []) ≡ names_of fs ++ string_bytes f.name ∷ []
names_push [] f = refl
names_push (g ∷ fs) f = ap (λ l. string_bytes g.name ∷ l) (names_push fs f)

pub loads_alike : {all : Bool} {b c fs gs : List File} {ns ms : List Need} (held : Held) (n : ℕ) → Loads all b ns fs [] → Loads all c ms gs [] → ns ≡ ms → names_of b ≡ names_of c → AreHeld held n fs → AreHeld held n gs → AreAlike fs gs
loads_alike held n loads_none loads_none e same h k = tt
loads_alike held n loads_none (is_there short t r) e same h k = absurd (cc)
loads_alike held n loads_none (is_loaded short new is r) e same h k = absurd (cc)
loads_alike held n (is_there short t r) loads_none e same h k = absurd (cc)
loads_alike held n (is_loaded short new is r) loads_none e same h k = absurd (cc)
loads_alike held n (is_there {needs = ns} short t r) (is_there {needs = ms} short' u q) e same h k = let rest : ns ≡ ms = cc in loads_alike held n r q rest same h k
loads_alike {b = b} held n (is_there {n = x} short t r) (is_loaded {n = y} short' new is q) e same h k = let one : x ≡ y = cc in absurd (new (subst (λ l. Contains l (file_of y)) same (subst (λ z. Contains (names_of b) (file_of z)) one t)))
loads_alike {c = c} held n (is_loaded {n = x} short new is r) (is_there {n = y} short' t q) e same h k = let one : x ≡ y = cc in absurd (new (subst (λ l. Contains l (file_of x)) (sym same) (subst (λ z. Contains (names_of c) (file_of z)) (sym one) t)))
loads_alike {all = all} {b = b} {c = c} held n (is_loaded {n = x} {f = f} {needs = ns} short new is r) (is_loaded {n = y} {f = g} {needs = ms} short' new' is' q) e same h k =
    let one : x ≡ y = cc in
    let rest : ns ≡ ms = cc in
    let name : string_bytes f.name ≡ string_bytes g.name = is.name ∙ ap file_of one ∙ sym is'.name in
    let bytes = same_Some _ _ (sym h.0 ∙ ap held name ∙ k.0) in
    let p : f.part ≡ g.part = is.part ∙ ap (λ z. z.part) one ∙ sym is'.part in
    let names = same_names all n f g h.1 k.1 p bytes in (
      record { part = p; stem = is.stem ∙ ap (λ z. z.name) one ∙ sym is'.stem; name = name; bytes = bytes },
      loads_alike held (suc n) r q (ap (λ l. l ++ ns) names ∙ ap (λ l. named_by all g.part g.text ++ l) rest)
          (names_push b f ∙ ap (λ l. l ++ string_bytes f.name ∷ []) same ∙ ap (λ w. names_of c ++ w ∷ []) name ∙ sym (names_push c g)) h.2 k.2,
    )
