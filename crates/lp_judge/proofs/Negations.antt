-- The first place of the word `not`: in a text, in files, and in texts of which the query is the last.
use Rattle.std.proofs.Common.{◌≡◌, ◌≢◌, ℕ, zero, suc, ◌+◌, ◌-◌, ◌<◌, ◌≤◌, List, [], ◌∷◌, ◌++◌, length, map, take, drop, get_or, Option, Some, None, Result, Ok, Err, Bool, true, false, refl, sym, ap, ◌∙◌, subst, arith}
use Rattle.std.specs.Global.{Global}
use Rattle.std.specs.Prelude.{All, MatchOption, IfOk, IfErr, OnOk, ◌&&◌, nat_le, slice_index_or, slice_range, string_bytes, codes, if◌then◌else◌}
use Rattle.std.specs.Str.{bytes_eq}
use Rattle.std.proofs.lemmas.List.Elements.{All-nil, All-cons, All-append, All-head, All-tail, All-take}
use Rattle.std.proofs.lemmas.List.{drop_more, take_all, take_more}
use Rattle.lp_lemmas.proofs.Booleans.{bytes_eq_true}
use Rattle.lp_base.specs.declared.place.Spot.{Spot}
use Rattle.lp_lexer.specs.Lexis.{HasFault, HasTokens, place_at}
use Rattle.lp_lexer.specs.declared.token.LexFault.{LexFault}
use Rattle.lp_lexer.specs.declared.token.LexFault.TheVariants as fault
use Rattle.lp_lexer.specs.declared.token.Token.{Token}
use Rattle.lp_lexer.specs.declared.token.TokenKind.{TokenKind}
use Rattle.lp_lexer.specs.declared.token.TokenKind.TheVariants as kind
use Rattle.lp_lexer.proofs.Once.{one_reading}
use Rattle.lp_syntax.specs.Tokens.{piece}
use Rattle.lp_sig.specs.Refusals.{IsAt}
use Rattle.lp_build.specs.Named.{IsFileAt}
use Rattle.lp_build.specs.declared.sources.File.{File}
use Rattle.lp_lines.specs.Placed.{IfSource, IsBlamed, SaysOf, piece_of, said_as, source_line}
use Rattle.lp_lines.specs.declared.cause.Blame.{Blame}
use Rattle.lp_lines.specs.declared.cause.Cause.{Cause}
use Rattle.lp_lines.specs.declared.cause.Cause.TheVariants as cause
use Rattle.lp_lines.specs.declared.refusal.Refusal.{Refusal}
use Rattle.lp_lines.proofs.Placing.{line_is_source, source_weaker}
use Rattle.lp_load.specs.Placed.{SaysOfFile}
use Rattle.lp_judge.specs.Negated.{AreWithoutNot, HasFirst, HasNone, TellsFirstNot, Text, first_among, is_word, texts_of}
use Rattle.lp_judge.specs.inner.Negations.{AreFilesWithout, HasFirstFile, spot_of}

-- the first of the tokens from a number on
first_here : (text : List ℕ) (ts : List Token) (at : ℕ) (t : Token) → at < length ts → get_or ts at t ≡ t → first_among text (drop at ts) ≡
    (if is_word t.kind (piece text t.from t.to) then Some t else first_among text (drop (at + 1) ts))
first_here text ts at t l e = ap (first_among text) (drop_more ts at t l ∙ ap (λ u. u ∷ drop (at + 1) ts) e)

pub found_here : (text : List ℕ) (ts : List Token) (at : ℕ) (t : Token) → at < length ts → get_or ts at t ≡ t → is_word t.kind
    (piece text t.from t.to) ≡ true → first_among text (drop at ts) ≡ first_among text ts → Some t ≡ first_among text ts
found_here text ts at t l e w h = sym (first_here text ts at t l e ∙ ap (λ b. if b then Some t else first_among text (drop (at + 1) ts)) w) ∙ h

pub not_here : (text : List ℕ) (ts : List Token) (at : ℕ) (t : Token) → at < length ts → get_or ts at t ≡ t → is_word t.kind (piece text t.from t.to)
    ≡ false → first_among text (drop at ts) ≡ first_among text ts → first_among text (drop (at + 1) ts) ≡ first_among text ts
not_here text ts at t l e w h = sym (first_here text ts at t l e ∙ ap (λ b. if b then Some t else first_among text (drop (at + 1) ts)) w) ∙ h

pub none_left : (text : List ℕ) (ts : List Token) (at : ℕ) → length ts ≤ at → first_among text (drop at ts) ≡ None
none_left text [] zero l = refl
none_left text [] (suc n) l = refl
none_left text (t ∷ ts) zero l = absurd (omega (arith, l))
none_left text (t ∷ ts) (suc n) l = none_left text ts n (omega (arith, l))

-- a text has its tokens once
pub none_of : (text : List ℕ) (ts : List Token) → HasTokens text ts → first_among text ts ≡ None → HasNone text
none_of text ts h e us k = ap (first_among text) (sym (one_reading text 0 ts us _ _ h.1 k.1).tokens) ∙ e

-- a text with a fault has none
pub none_at_fault : (text : List ℕ) (e : LexFault) → HasFault text e → e ≢ fault.Memory → HasNone text
none_at_fault text fault.Memory h n = absurd (n refl)
none_at_fault text (fault.BadByte p) h n = λ us k. absurd (let a = (one_reading text 0 h.0 us _ _ h.1 k.1).result in cc)
none_at_fault text (fault.OpenText p) h n = λ us k. absurd (let a = (one_reading text 0 h.0 us _ _ h.1 k.1).result in cc)
none_at_fault text (fault.OpenComment p) h n = λ us k. absurd (let a = (one_reading text 0 h.0 us _ _ h.1 k.1).result in cc)
none_at_fault text (fault.BigNumber p) h n = λ us k. absurd (let a = (one_reading text 0 h.0 us _ _ h.1 k.1).result in cc)

pub found_of : (text : List ℕ) (ts : List Token) (found : Option Token) → HasTokens text ts → found ≡ first_among text ts → MatchOption found (HasNone text) (HasFirst text)
found_of text ts None h e = none_of text ts h (sym e)
found_of text ts (Some t) h e = (ts, h, sym e)

-- the token that is found is the word
is_the_word : (text : List ℕ) (ts : List Token) (t : Token) → first_among text ts ≡ Some t → is_word t.kind (piece text t.from t.to) ≡ true
is_the_word text [] t e = absurd (cc)
is_the_word text (u ∷ us) t e = by (is_the_word text us t) (is_word u.kind (piece text u.from u.to)) refl e
  where
    by : (first_among text us ≡ Some t → is_word t.kind (piece text t.from t.to) ≡ true) → (b : Bool) → is_word u.kind (piece text u.from u.to) ≡ b →
        (if b then Some u else first_among text us) ≡ Some t → is_word t.kind (piece text t.from t.to) ≡ true
    by later true q e = let same : u ≡ t = cc in subst (λ v. is_word v.kind (piece text v.from v.to) ≡ true) same q
    by later false q e = later e

word_is : (k : TokenKind) (word : List ℕ) → is_word k word ≡ true → word ≡ codes "not"
word_is kind.Lower word e = bytes_eq_true word (codes "not") e
word_is _ word e = absurd (cc)

-- it lies in the text, so its bytes are these
piece_is : (text : List ℕ) (from to : ℕ) → piece text from to ≡ codes "not" → piece_of text from to ≡ codes "not"
unfolding piece
piece_is text from to e = by (nat_le from to && nat_le to (length text)) e
  where
    by : (b : Bool) → (if b then slice_range text from to else []) ≡ codes "not" → piece_of text from to ≡ codes "not"
    by true q = q
    by false q = absurd (cc)

-- so the line says the word
line_says : (name text line : List ℕ) (t : Token) (b : Blame) → b.text.now ≡ codes "unsupported" → b.is_named ≡ true → b.spot.from ≡ t.from → b.spot.to ≡ t.to → HasFirst text t → IsBlamed name text b line →
    line ≡ source_line name (place_at text t.from) (codes "unsupported not")
line_says name text line t b m named from to h w =
    let line_of : Bool → List ℕ → ℕ → ℕ → List ℕ = λ n said f u. source_line name (place_at text f) (said_as n said text f u) in
    w.wrote
    ∙ (ap (λ n. line_of n b.text.now b.spot.from b.spot.to) named
    ∙ (ap (λ said. line_of true said b.spot.from b.spot.to) m
    ∙ (ap (λ f. line_of true (codes "unsupported") f b.spot.to) from
    ∙ (ap (λ u. line_of true (codes "unsupported") t.from u) to
    ∙ ap (λ word. source_line name (place_at text t.from) (codes "unsupported" ++ codes " " ++ word)) (piece_is text t.from t.to (word_is t.kind (piece text t.from t.to) (is_the_word text h.0 t h.2)))))))

abbrev none : Text → Type 0
none t = HasNone t.bytes

abbrev no_word : File → Type 0
no_word f = HasNone f.text.bytes.items

abbrev text_of : File → Text
text_of f = record { name = string_bytes f.name; bytes = f.text.bytes.items }

files_without : (files : List File) → AreFilesWithout files → AreWithoutNot (map text_of files)
files_without [] h = All-nil none
files_without (f ∷ fs) h = All-cons none (text_of f) (map text_of fs) (All-head no_word f fs h) (files_without fs (All-tail no_word f fs h))

-- the query stands behind the files
query_last : (files : List File) (query : List ℕ) → texts_of files query ≡ map text_of files ++ record { name = codes "query"; bytes = query } ∷ []
query_last [] query = refl
query_last (f ∷ fs) query = ap (λ ts. text_of f ∷ ts) (query_last fs query)

pub all_without : (files : List File) (query : List ℕ) → AreFilesWithout files → HasNone query → AreWithoutNot (texts_of files query)
all_without files query h k = subst AreWithoutNot (sym (query_last files query)) (All-append none (map text_of files) _ (files_without files h) (All-cons none _ [] k (All-nil none)))

-- a file stands between those before it and those behind it
file_between : (files : List File) (query : List ℕ) (n : ℕ) (f : File) → IsAt files n f → texts_of files query ≡ map text_of (take n files) ++ text_of f ∷ texts_of (drop (suc n) files) query
file_between [] query n f h = absurd (omega (arith, h.0))
file_between (g ∷ gs) query zero f h = ap (λ x. text_of x ∷ texts_of gs query) h.1
file_between (g ∷ gs) query (suc n) f h = ap (λ ts. text_of g ∷ ts) (file_between gs query n f (omega (arith, h.0), h.1))

-- the files up to a number, and one more
pub more_without : (files : List File) (n : ℕ) (f : File) → IsAt files n f → HasNone f.text.bytes.items → AreFilesWithout (take n files) → AreFilesWithout (take (n + 1) files)
more_without files n f at h k = subst AreFilesWithout (sym (take_more files n f at.0 ∙ ap (λ g. take n files ++ g ∷ []) at.1))
    (All-append no_word (take n files) (f ∷ []) k (All-cons no_word f [] h (All-nil no_word)))

pub all_files : (files : List File) (n : ℕ) → length files ≤ n → AreFilesWithout (take n files) → AreFilesWithout files
all_files files n l h = subst AreFilesWithout (take_all n files l) h

-- the spot of the first token of the first file that has one
pub first_file : (files : List File) (n : ℕ) (name text : List ℕ) (t : Token) → IsFileAt files n name text → HasFirst text t → AreFilesWithout (take n files) → HasFirstFile files (spot_of n t)
first_file files n name text t f h k = record { file = f.0; there = f.1; none = k; token = t; first = subst (λ w. HasFirst w t) (sym f.3) h; is = refl }

same_at : {A : Type 0} (xs : List A) (n : ℕ) (x y : A) → IsAt xs n x → IsAt xs n y → x ≡ y
same_at [] n x y h k = absurd (omega (arith, h.0))
same_at (z ∷ zs) zero x y h k = sym h.1 ∙ k.1
same_at (z ∷ zs) (suc n) x y h k = same_at zs n x y (omega (arith, h.0), h.1) (omega (arith, k.0), k.1)

-- the refusal of the query tells of its first token, where none stands in the files
pub query_tells : (files : List File) (query : List ℕ) (t : Token) (b : Blame) (c : Cause) (r : Refusal) → c ≡ cause.Text b → b.text.now ≡ codes "unsupported" → b.is_named ≡ true → b.spot ≡ spot_of 0 t → HasFirst query t →
    SaysOf (codes "query") query c r → AreFilesWithout files → IfSource (TellsFirstNot (texts_of files query)) r
query_tells files query t b c r is m named spot first says none =
    source_weaker _ _ (λ line w. record {
      before = map text_of files;
      text = record { name = codes "query"; bytes = query };
      behind = [];
      order = query_last files query;
      none = files_without files none;
      token = t;
      first = first;
      wrote = line_says (codes "query") query line t b m named (ap (λ s. s.from) spot) (ap (λ s. s.to) spot) first w;
    }) r (line_is_source (IsBlamed (codes "query") query b) r (subst (λ d. SaysOf (codes "query") query d r) is says))

-- the refusal of a file tells of the first token of the first file that has one
pub file_tells : (files : List File) (query : List ℕ) (b : Blame) (c : Cause) (r : Refusal) → c ≡ cause.Text b → b.text.now ≡ codes "unsupported" → b.is_named ≡ true → HasFirstFile files b.spot →
    SaysOfFile files c r → IfSource (TellsFirstNot (texts_of files query)) r
file_tells files query b c r is m named found says =
    source_weaker _ _ (λ line w. tells line w) r (line_is_source _ r (subst (λ d. SaysOfFile files d r) is says))
  where
    tells : (line : List ℕ) → ((name text : List ℕ) × IsFileAt files b.spot.file name text × IsBlamed name text b line) → TellsFirstNot (texts_of files query) line
    tells line w =
        let same = same_at files b.spot.file w.2.0 found.file w.2.1 found.there in
        let name : string_bytes found.file.name ≡ w.0 = ap (λ f. string_bytes f.name) (sym same) ∙ w.2.2 in
        let bytes : found.file.text.bytes.items ≡ w.1 = ap (λ f. f.text.bytes.items) (sym same) ∙ w.2.3 in
        record {
          before = map text_of (take b.spot.file files);
          text = text_of found.file;
          behind = texts_of (drop (suc b.spot.file) files) query;
          order = file_between files query b.spot.file found.file found.there;
          none = files_without (take b.spot.file files) found.none;
          token = found.token;
          first = found.first;
          wrote = line_says (string_bytes found.file.name) found.file.text.bytes.items line found.token b m named (ap (λ s. s.from) found.is) (ap (λ s. s.to) found.is) found.first
              (subst (λ n. IsBlamed n found.file.text.bytes.items b line) (sym name) (subst (λ t. IsBlamed w.0 t b line) (sym bytes) w.3));
        }
