-- The modules of texts are taken over signatures as texts have them, and go with one another: each sees what those export that it accumulates, with the same types.
use Rattle.std.specs.Global.{Global}
use Rattle.std.proofs.Common.{◌≡◌, ℕ, zero, suc, ◌+◌, ◌<◌, ◌≤◌, List, [], ◌∷◌, ◌++◌, length, map, filter_map, get_or, option_map, Bool, true, false, Option, Some, None, String, Vec, refl, sym, ap, subst, ◌∙◌, arith, inl, inr, true≢false}
use Rattle.std.specs.Prelude.{◌⊎◌, ◌||◌, if◌then◌else◌, nat_eq, slice_get, string_bytes, Contains, All}
use Rattle.std.specs.List.{cons_option, list_any}
use Rattle.std.specs.Str.{bytes_eq}
use Rattle.std.proofs.lemmas.Bool.{eqb-true, eq-eqb}
use Rattle.std.proofs.lemmas.List.{length-append, length-map}
use Rattle.std.proofs.lemmas.List.Elements.{Contains-append_cases, Contains-append_left, Contains-append_right}
use Rattle.std.proofs.lemmas.Option.{same_Some, slice_get-get_or, slice_get_within, get_or_from_slice_get}
use Rattle.std.proofs.lemmas.Slice.Eq.{bytes_eq-Decides}
use Rattle.indexmap.specs.IndexSet.{insert_all, insert_key}
use Rattle.lp_lemmas.proofs.Elements.{Contains_head, Contains_tail, Contains_single}
use Rattle.lp_base.specs.declared.place.Spot.{Spot}
use Rattle.lp_syntax.specs.References.{AreReferences}
use Rattle.lp_syntax.specs.Tokens.{lexeme, lexemes, spot_at}
use Rattle.lp_syntax.specs.declared.text.Declaration.TheVariants.{Kinds, LocalKinds, Constants, Locals, Abbreviation, Accumulate, AccumSig, Fixities}
use Rattle.lp_syntax.specs.declared.text.Sentence.{Sentence}
use Rattle.lp_syntax.specs.declared.text.Sentence.TheVariants.{Declares, Says}
use Rattle.lp_syntax.specs.declared.text.ModuleText.{ModuleText}
use Rattle.lp_syntax.specs.declared.text.SignatureText.{SignatureText}
use Rattle.lp_sig.specs.AsWritten.{AreReady, HasWholeBodies}
use Rattle.lp_sig.specs.Loading.{accum_words}
use Rattle.lp_sig.specs.Modules.{declarations, first_names, IsApart}
use Rattle.lp_sig.specs.Named.{IsOrdered, SeesAlike, accumulate_in, many_words}
use Rattle.lp_sig.specs.Pieces.{spelled}
use Rattle.lp_sig.specs.Places.{first_place}
use Rattle.lp_sig.specs.Refusals.{IsAt}
use Rattle.lp_sig.specs.Rows.{fixity_row}
use Rattle.lp_sig.specs.Said.{is_among}
use Rattle.lp_sig.specs.Same.{AreSameSignatures}
use Rattle.lp_sig.specs.declared.signature.Signature.{Signature}
use Rattle.lp_sig.proofs.Apart.{names_apart}
use Rattle.lp_sig.proofs.OneSignature.{one_signature}
use Rattle.lp_sig.proofs.OrderedSignatures.{bodies_whole, signature_ordered}
use Rattle.lp_sig.proofs.OwnNames.{own_first}
use Rattle.lp_module.specs.Copies.{numbers_of, number_list, names_of, uses_of}
use Rattle.lp_module.specs.Joined.{IsJoined, AreJoined}
use Rattle.lp_module.specs.Words.{accumulate_words}
use Rattle.lp_module.specs.declared.module.Module.{Module}
use Rattle.lp_module.proofs.Joins.{joined_by}
use Rattle.lp_module.proofs.NumberedSignatures.{signature_numbered}
use Rattle.lp_build.specs.Meant.{IsDeclaredAt, IsOwnSignature, IsSignatureOf, AreSignaturesOf, no_signature, one_signature as one_signature_more, IsModuleAt, AreModulesAt, no_module, one_module, AreModules}
use Rattle.lp_build.specs.Reads.{AreRead, IsReadFile}
use Rattle.lp_build.specs.Sights.{signature_of, each_once, accum_sig_of, accumulate_of, accum_sig_at, accumulate_at}
use Rattle.lp_build.specs.Trees.{IsSignatureTree, IsModuleTree, AreSignatureTexts, AreModuleTexts, AreTexts, no_text, other_text, one_text}
use Rattle.lp_build.specs.declared.sources.File.{File}
use Rattle.lp_build.specs.declared.sources.Part.{Part}
use Rattle.lp_build.specs.declared.sources.Part.TheVariants as part
use Rattle.lp_build.specs.declared.sources.Sources.{Sources}
use Rattle.lp_build.specs.declared.texts.Group.{Group}
use Rattle.lp_build.proofs.Referred.{words_referred}

-- lists
stands : {A : Type 0} (xs : List A) (i : ℕ) (x : A) → slice_get xs i ≡ Some x → Contains xs x
stands xs i x e = (i, slice_get_within xs i x e, get_or_from_slice_get xs i x x e)

pub last_or : {A : Type 0} (xs : List A) (y x : A) (i : ℕ) → slice_get (xs ++ y ∷ []) i ≡ Some x → (slice_get xs i ≡ Some x) ⊎ ((i ≡ length xs) × (y ≡ x))
last_or [] y x zero e = inr (refl, same_Some y x e)
last_or [] y x (suc i) e = absurd (cc)
last_or (z ∷ zs) y x zero e = inl e
last_or (z ∷ zs) y x (suc i) e = next (last_or zs y x i e)
  where
    next : (slice_get zs i ≡ Some x) ⊎ ((i ≡ length zs) × (y ≡ x)) → (slice_get zs i ≡ Some x) ⊎ ((suc i ≡ suc (length zs)) × (y ≡ x))
    next (inl h) = inl h
    next (inr h) = inr (ap (λ n. suc n) h.0, h.1)

pub get_at : {A : Type 0} (xs : List A) (i : ℕ) (x : A) → IsAt xs i x → slice_get xs i ≡ Some x
get_at [] i x (l, e) = absurd (omega (arith, l))
get_at (y ∷ ys) zero x (l, e) = ap (λ y. Some y) e
get_at (y ∷ ys) (suc i) x (l, e) = get_at ys i x (omega (arith, l), e)

-- the module at a place of the order
module _ {files : List File} {g : Group SignatureText} {t : Group ModuleText} where
  module_at : (ps : List ℕ) (ms : List Module) → AreModulesAt files g t ps ms → (k : ℕ) (m : Module) → slice_get ms k ≡ Some m → (p : ℕ) × IsModuleAt files g t p m
  module_at ps ms no_module k m e = absurd (cc)
  module_at ps ms (one_module qs _ ns _ p n before is e f) k m at = by (module_at qs ns before k m) (last_or ns n m k (ap (λ l. slice_get l k) (sym f) ∙ at))
    where
      by : (slice_get ns k ≡ Some m → (p : ℕ) × IsModuleAt files g t p m) → (slice_get ns k ≡ Some m) ⊎ ((k ≡ length ns) × (n ≡ m)) → (p : ℕ) × IsModuleAt files g t p m
      by r (inl h) = r h
      by r (inr h) = (p, subst (IsModuleAt files g t p) h.1 is)

module _ {g : Group SignatureText} where
  same_length : (ms : List ℕ) (ts : List Signature) → AreSignaturesOf g ms ts → length ms ≡ length ts
  same_length ms ts no_signature = refl
  same_length ms ts (one_signature_more ks _ us _ k u before is e f) =
      ap length e ∙ length-append ks (k ∷ []) ∙ ap (λ n. n + 1) (same_length ks us before) ∙ sym (length-append us (u ∷ [])) ∙ sym (ap length f)

  -- the signature at a place
  signature_at : (ns : List ℕ) (ss : List Signature) → AreSignaturesOf g ns ss → (i n : ℕ) → slice_get ns i ≡ Some n → (s : Signature) × (slice_get ss i ≡ Some s) × IsSignatureOf g n s
  signature_at ns ss no_signature i n e = absurd (cc)
  signature_at ns ss (one_signature_more ms _ ts _ m s before is e f) i n at = by (signature_at ms ts before i n) (last_or ms m n i (ap (λ l. slice_get l i) (sym e) ∙ at))
    where
      front : (ts : List Signature) (x : Signature) (i : ℕ) → slice_get ts i ≡ Some x → slice_get (ts ++ s ∷ []) i ≡ Some x
      front [] x i e = absurd (cc)
      front (t ∷ ts) x zero e = e
      front (t ∷ ts) x (suc i) e = front ts x i e

      end : (ts : List Signature) → slice_get (ts ++ s ∷ []) (length ts) ≡ Some s
      end [] = refl
      end (t ∷ ts) = end ts

      by : (slice_get ms i ≡ Some n → (s : Signature) × (slice_get ts i ≡ Some s) × IsSignatureOf g n s) → (slice_get ms i ≡ Some n) ⊎
          ((i ≡ length ms) × (m ≡ n)) → (s : Signature) × (slice_get ss i ≡ Some s) × IsSignatureOf g n s
      by r (inl h) = let (x, at_x, is_x) = r h in (x, ap (λ l. slice_get l i) f ∙ front ts x i at_x, is_x)
      by r (inr h) = (s, ap (λ l. slice_get l i) f ∙ ap (slice_get (ts ++ s ∷ [])) (h.0 ∙ same_length ms ts before) ∙ end ts, subst (λ n. IsSignatureOf g n s) h.1 is)

  all_signatures : (P : Signature → Type 0) → ((n : ℕ) (s : Signature) → IsSignatureOf g n s → P s) → (ns : List ℕ) (ss : List Signature) →
      AreSignaturesOf g ns ss → (i : ℕ) (s : Signature) → slice_get ss i ≡ Some s → P s
  all_signatures P each ns ss no_signature i s e = absurd (cc)
  all_signatures P each ns ss (one_signature_more ms _ ts _ m u before is e f) i s at = by (all_signatures P each ms ts before i s) (last_or ts u s i (ap (λ l. slice_get l i) (sym f) ∙ at))
    where
      by : (slice_get ts i ≡ Some s → P s) → (slice_get ts i ≡ Some s) ⊎ ((i ≡ length ts) × (u ≡ s)) → P s
      by r (inl h) = r h
      by r (inr h) = subst P h.1 (each m u is)

-- a text is that of a file
record IsFileText {T : Type 0} (IsTree : ℕ → File → T → Type 0) (files : List File) (number : ℕ) (source : Vec ℕ Global) (tree : T) : Type 0 where
  pub file : File
  pub at : IsAt files number file
  pub bytes : source.items ≡ file.text.bytes.items
  pub tree_is : IsTree number file tree

-- what a file names by the words of its text
pub record NamesFiles (files : List File) (number : ℕ) (source : List ℕ) (text : ModuleText) : Type 0 where
  pub accum_sig : accum_sig_at files number ≡ each_once (filter_map (signature_of files) (map (spelled source) (accum_words (declarations text.lines.items))))
  pub accumulate : accumulate_at files number ≡ each_once (filter_map (signature_of files) (map (spelled source) (accumulate_in (declarations text.lines.items))))

-- numbers of texts are apart, and each is that of its file
module _ {T : Type 0} (p : Part) (IsTree : ℕ → File → T → Type 0) (files : List File) where
  numbers_below : (n : ℕ) (numbers : List ℕ) (names : List (String Global)) (sources : List (Vec ℕ Global)) (trees : List T) → AreTexts p IsTree files
      n numbers names sources trees → (i k : ℕ) → slice_get numbers i ≡ Some k → k < n
  numbers_below n numbers names sources trees no_text i k e = absurd (cc)
  numbers_below n numbers names sources trees (other_text m _ f _ _ _ _ before at_f part e) i k at = let h = numbers_below m numbers names sources trees before i k at in omega (arith, h, e)
  numbers_below n numbers names sources trees (one_text m _ f name source tree ns _ ms _ ss _ ts _ before at_f part same_name same_source is e a b c
      d) i k at = by (numbers_below m ns ms ss ts before i k) (last_or ns m k i (ap (λ l. slice_get l i) (sym a) ∙ at))
    where
      by : (slice_get ns i ≡ Some k → k < m) → (slice_get ns i ≡ Some k) ⊎ ((i ≡ length ns) × (m ≡ k)) → k < n
      by r (inl h) = let l = r h in omega (arith, l, e)
      by r (inr h) = let z = h.1 in omega (arith, z, e)

  one_place : (n : ℕ) (numbers : List ℕ) (names : List (String Global)) (sources : List (Vec ℕ Global)) (trees : List T) → AreTexts p IsTree files n
      numbers names sources trees → (i j k : ℕ) → slice_get numbers i ≡ Some k → slice_get numbers j ≡ Some k → i ≡ j
  one_place n numbers names sources trees no_text i j k e f = absurd (cc)
  one_place n numbers names sources trees (other_text m _ f _ _ _ _ before at_f part e) i j k a b = one_place m numbers names sources trees before i j k a b
  one_place n numbers names sources trees (one_text m _ f name source tree ns _ ms _ ss _ ts _ before at_f part same_name same_source is e a b c d) i j k at_i at_j =
      by (one_place m ns ms ss ts before i j k) (last_or ns m k i (ap (λ l. slice_get l i) (sym a) ∙ at_i)) (last_or ns m k j (ap (λ l. slice_get l j) (sym a) ∙ at_j))
    where
      by : (slice_get ns i ≡ Some k → slice_get ns j ≡ Some k → i ≡ j) → (slice_get ns i ≡ Some k) ⊎ ((i ≡ length ns) × (m ≡ k)) → (slice_get ns j ≡ Some k) ⊎ ((j ≡ length ns) × (m ≡ k)) → i ≡ j
      by r (inl x) (inl y) = r x y
      by r (inl x) (inr y) = let l = numbers_below m ns ms ss ts before i k x in let z = y.1 in absurd (omega (arith, l, z))
      by r (inr x) (inl y) = let l = numbers_below m ns ms ss ts before j k y in let z = x.1 in absurd (omega (arith, l, z))
      by r (inr x) (inr y) = x.0 ∙ sym y.0

  same_lengths : (n : ℕ) (numbers : List ℕ) (names : List (String Global)) (sources : List (Vec ℕ Global)) (trees : List T) → AreTexts p IsTree files
      n numbers names sources trees → (length sources ≡ length numbers) × (length trees ≡ length numbers)
  same_lengths n numbers names sources trees no_text = (refl, refl)
  same_lengths n numbers names sources trees (other_text m _ f _ _ _ _ before at_f part e) = same_lengths m numbers names sources trees before
  same_lengths n numbers names sources trees (one_text m _ f name source tree ns _ ms _ ss _ ts _ before at_f part same_name same_source is e a b c d) =
      let h = same_lengths m ns ms ss ts before in
      let x = ap length a ∙ length-append ns (m ∷ []) in
      let y = ap length c ∙ length-append ss (source ∷ []) in
      let z = ap length d ∙ length-append ts (tree ∷ []) in (y ∙ ap (λ n. n + 1) h.0 ∙ sym x, z ∙ ap (λ n. n + 1) h.1 ∙ sym x)

  text_at : (n : ℕ) (numbers : List ℕ) (names : List (String Global)) (sources : List (Vec ℕ Global)) (trees : List T) → AreTexts p IsTree files n
      numbers names sources trees → (i number : ℕ) (source : Vec ℕ Global) (tree : T) →
      slice_get numbers i ≡ Some number → slice_get sources i ≡ Some source → slice_get trees i ≡ Some tree → IsFileText IsTree files number source tree
  text_at n numbers names sources trees no_text i number source tree x y z = absurd (cc)
  text_at n numbers names sources trees (other_text m _ f _ _ _ _ before at_f part e) i number source tree x y z = text_at m numbers names sources trees before i number source tree x y z
  text_at n numbers names sources trees (one_text m _ f name s t ns _ ms _ ss _ ts _ before at_f part same_name same_source is e a b c d) i number source tree x y z =
      by (text_at m ns ms ss ts before i number source tree) (last_or ns m number i (ap (λ l. slice_get l i) (sym a) ∙ x))
      (last_or ss s source i (ap (λ l. slice_get l i) (sym c) ∙ y)) (last_or ts t tree i (ap (λ l. slice_get l i) (sym d) ∙ z))
    where
      long : (length ss ≡ length ns) × (length ts ≡ length ns)
      long = same_lengths m ns ms ss ts before

      by : (slice_get ns i ≡ Some number → slice_get ss i ≡ Some source → slice_get ts i ≡ Some tree → IsFileText IsTree files number source tree) →
          (slice_get ns i ≡ Some number) ⊎ ((i ≡ length ns) × (m ≡ number)) → (slice_get ss i ≡ Some source) ⊎ ((i ≡ length ss) × (s ≡ source)) →
          (slice_get ts i ≡ Some tree) ⊎ ((i ≡ length ts) × (t ≡ tree)) → IsFileText IsTree files number source tree
      by r (inl u) (inl v) (inl w) = r u v w
      by r (inl u) (inr v) w = let l = slice_get_within ns i number u in let e = v.0 in let q = long.0 in absurd (omega (arith, l, e, q))
      by r (inl u) v (inr w) = let l = slice_get_within ns i number u in let e = w.0 in let q = long.1 in absurd (omega (arith, l, e, q))
      by r (inr u) (inl v) w = let l = slice_get_within ss i source v in let e = u.0 in let q = long.0 in absurd (omega (arith, l, e, q))
      by r (inr u) v (inl w) = let l = slice_get_within ts i tree w in let e = u.0 in let q = long.1 in absurd (omega (arith, l, e, q))
      by r (inr u) (inr v) (inr w) = record {
        file = f;
        at = subst (λ n. IsAt files n f) u.1 at_f;
        bytes = ap (λ s. s.items) (sym v.1) ∙ same_source;
        tree_is = subst (λ n. IsTree n f tree) u.1 (subst (IsTree m f) w.1 is);
      }

-- numbers that words have, each once
kept : (es xs : List ℕ) (x : ℕ) → Contains es x → Contains (insert_all nat_eq es xs) x
kept es [] x h = h
kept es (y ∷ ys) x h = kept (insert_key nat_eq es y) ys x (by (list_any (nat_eq y) es))
  where
    by : (t : Bool) → Contains (if t then es else es ++ y ∷ []) x
    by true = h
    by false = Contains-append_left es (y ∷ []) x h

any_of : (es : List ℕ) (y : ℕ) → list_any (nat_eq y) es ≡ true → Contains es y
any_of [] y e = absurd (cc)
any_of (x ∷ xs) y e = by (any_of xs y) (nat_eq y x) refl e
  where
    by : (list_any (nat_eq y) xs ≡ true → Contains xs y) → (t : Bool) → nat_eq y x ≡ t → (t || list_any (nat_eq y) xs) ≡ true → Contains (x ∷ xs) y
    by h true s f = subst (Contains (x ∷ xs)) (sym (eqb-true y x s)) (Contains_head x xs)
    by h false s f = Contains_tail x y xs (h f)

of_any : (es : List ℕ) (y : ℕ) → Contains es y → list_any (nat_eq y) es ≡ true
of_any [] y (i, l, e) = absurd (omega (arith, l))
of_any (x ∷ xs) y (zero, l, e) = ap (λ t. t || list_any (nat_eq y) xs) (eq-eqb y x (sym e))
of_any (x ∷ xs) y (suc i, l, e) = by (of_any xs y (i, omega (arith, l), e)) (nat_eq y x)
  where
    by : list_any (nat_eq y) xs ≡ true → (t : Bool) → (t || list_any (nat_eq y) xs) ≡ true
    by h true = refl
    by h false = h

inserted : (es xs : List ℕ) (x : ℕ) → Contains xs x → Contains (insert_all nat_eq es xs) x
inserted es [] x (i, l, e) = absurd (omega (arith, l))
inserted es (y ∷ ys) x (zero, l, e) = kept (insert_key nat_eq es y) ys x (by (list_any (nat_eq y) es) refl)
  where
    by : (t : Bool) → list_any (nat_eq y) es ≡ t → Contains (if t then es else es ++ y ∷ []) x
    by true s = subst (Contains es) e (any_of es y s)
    by false s = subst (Contains (es ++ y ∷ [])) e (Contains-append_right es (y ∷ []) y (Contains_head y []))
inserted es (y ∷ ys) x (suc i, l, e) = inserted (insert_key nat_eq es y) ys x (i, omega (arith, l), e)

-- what a first word gives
none_first : (f : List ℕ → Option ℕ) (w : List ℕ) (ws : List (List ℕ)) → f w ≡ None → filter_map f (w ∷ ws) ≡ filter_map f ws
none_first f w ws e = ap (λ o. cons_option o (filter_map f ws)) e

some_first : (f : List ℕ → Option ℕ) (w : List ℕ) (ws : List (List ℕ)) (x : ℕ) → f w ≡ Some x → filter_map f (w ∷ ws) ≡ x ∷ filter_map f ws
some_first f w ws x e = ap (λ o. cons_option o (filter_map f ws)) e

-- there are no more of them than different words
module _ (f : List ℕ → Option ℕ) where
  few : (es : List ℕ) (known ws : List (List ℕ)) → ((n : List ℕ) (x : ℕ) → is_among n known ≡ true → f n ≡ Some x → Contains es x) → length
      (insert_all nat_eq es (filter_map f ws)) ≤ length es + length (first_names known ws)
  few es known [] old = omega arith
  few es known (w ∷ ws) old = by (λ es. few es known ws) (λ es. few es (w ∷ known) ws) (f w) refl (is_among w known) refl
    where
      later : (es : List ℕ) → ((n : List ℕ) (x : ℕ) → is_among n known ≡ true → f n ≡ Some x → Contains es x) →
          ((x : ℕ) → f w ≡ Some x → Contains es x) → (n : List ℕ) (x : ℕ) → is_among n (w ∷ known) ≡ true → f n ≡ Some x → Contains es x
      later es old this n x among is = go (bytes_eq n w) refl among
        where
          go : (t : Bool) → bytes_eq n w ≡ t → (t || is_among n known) ≡ true → Contains es x
          go true s a = this x (ap f (sym ((bytes_eq-Decides n w).0 s)) ∙ is)
          go false s a = old n x a is

      one_longer : (x : ℕ) (t : Bool) → length (if t then es else es ++ x ∷ []) ≤ length es + 1
      one_longer x true = omega arith
      one_longer x false = let z = length-append es (x ∷ []) in omega (arith, z)

      by : ((es : List ℕ) → ((n : List ℕ) (x : ℕ) → is_among n known ≡ true → f n ≡ Some x → Contains es x) → length
          (insert_all nat_eq es (filter_map f ws)) ≤ length es + length (first_names known ws)) →
          ((es : List ℕ) → ((n : List ℕ) (x : ℕ) → is_among n (w ∷ known) ≡ true → f n ≡ Some x → Contains es x) → length
          (insert_all nat_eq es (filter_map f ws)) ≤ length es + length (first_names (w ∷ known) ws)) →
          (o : Option ℕ) → f w ≡ o → (t : Bool) → is_among w known ≡ t → length (insert_all nat_eq es (filter_map f (w ∷ ws))) ≤ length es + length
          (if t then first_names known ws else w ∷ first_names (w ∷ known) ws)
      by p q None e true s = subst (λ xs. length (insert_all nat_eq es xs) ≤ length es + length (first_names known ws)) (sym (none_first f w ws e)) (p es old)
      by p q None e false s =
          let h = q es (later es old (λ x is. let z = sym e ∙ is in absurd (cc))) in
          subst (λ xs. length (insert_all nat_eq es xs) ≤ length es + suc (length (first_names (w ∷ known) ws))) (sym (none_first f w ws e)) (omega (arith, h))
      by p q (Some x) e true s =
          let same : insert_key nat_eq es x ≡ es = ap (λ t. if t then es else es ++ x ∷ []) (of_any es x (old w x s e)) in
          subst (λ xs. length (insert_all nat_eq es xs) ≤ length es + length (first_names known ws)) (sym (some_first f w ws x e))
          (subst (λ ks. length (insert_all nat_eq ks (filter_map f ws)) ≤ length es + length (first_names known ws)) (sym same) (p es old))
      by p q (Some x) e false s =
          let h = q (insert_key nat_eq es x) (later (insert_key nat_eq es x) (λ n y a is. kept es (x ∷ []) y (old n y a is))
          (λ y is. subst (Contains (insert_key nat_eq es x)) (same_Some x y (sym e ∙ is)) (inserted es (x ∷ []) x (Contains_head x [])))) in
          let l = one_longer x (list_any (nat_eq x) es) in
          subst (λ xs. length (insert_all nat_eq es xs) ≤ length es + suc (length (first_names (w ∷ known) ws))) (sym (some_first f w ws x e)) (omega (arith, h, l))

-- a word that has a number
has_number : (f : List ℕ → Option ℕ) (ws : List (List ℕ)) (w : List ℕ) (n : ℕ) → Contains ws w → f w ≡ Some n → Contains (filter_map f ws) n
has_number f [] w n (i, l, at) e = absurd (omega (arith, l))
has_number f (x ∷ xs) w n (zero, l, at) e = subst (λ ns. Contains ns n) (sym (some_first f x xs n (ap f at ∙ e))) (Contains_head n (filter_map f xs))
has_number f (x ∷ xs) w n (suc i, l, at) e = by (has_number f xs w n (i, omega (arith, l), at) e) (f x) refl
  where
    by : Contains (filter_map f xs) n → (o : Option ℕ) → f x ≡ o → Contains (filter_map f (x ∷ xs)) n
    by more None g = subst (λ ns. Contains ns n) (sym (none_first f x xs g)) more
    by more (Some m) g = subst (λ ns. Contains ns n) (sym (some_first f x xs m g)) (Contains_tail m n (filter_map f xs) more)

-- words by their spots
by_spots : (f : List ℕ → Option ℕ) (text : List ℕ) (words : List Spot) → filter_map (λ w. f (spelled text w)) words ≡ filter_map f (map (spelled text) words)
by_spots f text [] = refl
by_spots f text (w ∷ ws) = ap (cons_option (f (spelled text w))) (by_spots f text ws)

-- the module that a word names
named_one : (names words : List (List ℕ)) (j : ℕ) → Contains (numbers_of names words) j → (w : List ℕ) × Contains words w × (first_place w names ≡ Some j)
named_one names [] j (i, l, at) = absurd (omega (arith, l))
named_one names (u ∷ us) j has = by (named_one names us j) (first_place u names) refl has
  where
    by : (Contains (numbers_of names us) j → (w : List ℕ) × Contains us w × (first_place w names ≡ Some j)) → (o : Option ℕ) → first_place u names ≡ o
        → Contains (number_list o ++ numbers_of names us) j → (w : List ℕ) × Contains (u ∷ us) w × (first_place w names ≡ Some j)
    by r None e h = let (w, c, f) = r h in (w, Contains_tail u w us c, f)
    by r (Some m) e h = one (Contains-append_cases (m ∷ []) (numbers_of names us) j h)
      where
        one : Contains (m ∷ []) j ⊎ Contains (numbers_of names us) j → (w : List ℕ) × Contains (u ∷ us) w × (first_place w names ≡ Some j)
        one (inl c) = (u, Contains_head u us, e ∙ ap (λ m. Some m) (Contains_single m j c))
        one (inr c) = let (w, d, f) = r c in (w, Contains_tail u w us d, f)

place_name : (names : List (List ℕ)) (w : List ℕ) (j : ℕ) → first_place w names ≡ Some j → slice_get names j ≡ Some w
place_name [] w j e = absurd (cc)
place_name (n ∷ ns) w j e = by (place_name ns w) (bytes_eq w n) refl (first_place w ns) refl e
  where
    by : ((i : ℕ) → first_place w ns ≡ Some i → slice_get ns i ≡ Some w) → (t : Bool) → bytes_eq w n ≡ t → (o : Option ℕ) → first_place w ns ≡ o →
        (if t then Some 0 else option_map (λ i. suc i) o) ≡ Some j → slice_get (n ∷ ns) j ≡ Some w
    by r true s o f e = let z : 0 ≡ j = same_Some 0 j e in ap (slice_get (n ∷ ns)) (sym z) ∙ ap (λ w. Some w) (sym ((bytes_eq-Decides w n).0 s))
    by r false s None f e = absurd (cc)
    by r false s (Some i) f e = let z : suc i ≡ j = same_Some (suc i) j e in ap (slice_get (n ∷ ns)) (sym z) ∙ r i f

mapped_at : {A B : Type 0} (f : A → B) (xs : List A) (i : ℕ) (x : A) → slice_get xs i ≡ Some x → slice_get (map f xs) i ≡ Some (f x)
mapped_at f [] i x e = absurd (cc)
mapped_at f (y ∷ ys) zero x e = ap (option_map f) e
mapped_at f (y ∷ ys) (suc i) x e = mapped_at f ys i x e

in_list : {A : Type 0} (xs : List A) (x : A) → Contains xs x → (i : ℕ) × (slice_get xs i ≡ Some x)
in_list [] x (i, l, e) = absurd (omega (arith, l))
in_list (y ∷ ys) x (zero, l, e) = (0, ap (λ y. Some y) e)
in_list (y ∷ ys) x (suc i, l, e) = let (j, at) = in_list ys x (i, omega (arith, l), e) in (suc j, at)

-- the words of accumulate, as lp_sig and lp_module have them
words_same : (ls : List Sentence) → accumulate_words ls ≡ accumulate_in (declarations ls)
words_same [] = refl
words_same (Declares (Kinds a b) ∷ ls) = words_same ls
words_same (Declares (LocalKinds a b) ∷ ls) = words_same ls
words_same (Declares (Constants a b) ∷ ls) = words_same ls
words_same (Declares (Locals a b) ∷ ls) = words_same ls
words_same (Declares (Abbreviation a b c) ∷ ls) = words_same ls
words_same (Declares (Accumulate ws) ∷ ls) = ap (λ l. ws.items ++ l) (words_same ls)
words_same (Declares (AccumSig ws) ∷ ls) = words_same ls
words_same (Declares (Fixities a b n) ∷ ls) = words_same ls
words_same (Says raw ∷ ls) = words_same ls

-- signatures that texts give
module _ (g : Group SignatureText) where
  pub apart : (n : ℕ) (s : Signature) → IsSignatureOf g n s → IsApart s
  apart n s is = names_apart g.names.items g.sources.items g.texts.items is.place (map fixity_row s.fixities.items) s is.declared

  pub ordered : (n : ℕ) (s : Signature) → IsSignatureOf g n s → IsOrdered s
  ordered n s is = signature_ordered g.names.items g.sources.items g.texts.items is.place (map fixity_row s.fixities.items) s is.declared

  pub whole : (n : ℕ) (s : Signature) → IsSignatureOf g n s → HasWholeBodies s
  whole n s is = bodies_whole g.names.items g.sources.items g.texts.items is.place (map fixity_row s.fixities.items) s is.declared

  pub all_of : (P : Signature → Type 0) → ((n : ℕ) (s : Signature) → IsSignatureOf g n s → P s) → (ns : List ℕ) (ss : List Signature) → AreSignaturesOf g ns ss → All P ss
  all_of P each ns ss are k d l = all_signatures P each ns ss are k (get_or ss k d) (slice_get-get_or ss k d l)

-- two that the file of one number declares are the same
pub same_signature : (files : List File) (g : Group SignatureText) → AreSignatureTexts files (length files) g → (n : ℕ) (s u : Signature) → IsSignatureOf g n s → IsSignatureOf g n u → AreSameSignatures s u
same_signature files g texts n s u a b =
    let e = one_place part.Signature IsSignatureTree files (length files) g.numbers.items g.names.items g.sources.items g.texts.items texts a.place b.place n
    (get_at g.numbers.items a.place n a.there) (get_at g.numbers.items b.place n b.there) in
    one_signature g.names.items g.sources.items g.texts.items a.place (map fixity_row s.fixities.items) (map fixity_row u.fixities.items) s u
    a.declared (subst (λ p. IsDeclaredAt g p u) (sym e) b.declared)

-- the texts of files that were read
module _ (files : List File) (g : Group SignatureText) (t : Group ModuleText) (read : (number : ℕ) (file : File) → IsAt files number file → IsReadFile number file) (texts : AreModuleTexts files (length files) t) where
  -- what a module's file names by its words
  pub names_files : (p number : ℕ) (source : Vec ℕ Global) (text : ModuleText) → IsAt t.numbers.items p number → IsAt t.sources.items p source → IsAt t.texts.items p text → NamesFiles files number source.items text
  names_files p number source text at_number at_source at_text =
      let h = text_at part.Module (IsModuleTree files) files (length files) t.numbers.items t.names.items t.sources.items t.texts.items texts p number source text
      (get_at t.numbers.items p number at_number) (get_at t.sources.items p source at_source) (get_at t.texts.items p text at_text) in
      let f = h.file in
      let r = (read number f h.at).text in
      let bytes = f.text.bytes.items in
      let tokens = f.text.tokens.items in
      let l = length-map tokens (lexeme bytes) in
      let w = words_referred (spot_at number bytes tokens) h.tree_is.before h.tree_is.after (lexemes bytes tokens) text f.text.references h.tree_is.tree
      (subst (λ n. AreReferences (spot_at number bytes tokens) (lexemes bytes tokens) n f.text.references) (sym l) r.references) in
      let at = get_at files number f h.at in
      let one = λ (of_file : File → List ℕ). get_or_from_slice_get (map of_file files) number (of_file f) [] (mapped_at of_file files number f at) in
      let named = λ (words : List Spot) (text_words : List Spot) (e : words ≡ text_words).
      ap each_once (ap (filter_map (λ w. signature_of files (spelled bytes w))) e ∙ by_spots (signature_of files) bytes text_words ∙ ap
      (λ s. filter_map (signature_of files) (map (spelled s) text_words)) (sym h.bytes)) in
      record {
        accum_sig = one (accum_sig_of files) ∙ named f.text.references.accum_sig.items (accum_words (declarations text.lines.items)) w.1;
        accumulate = one (accumulate_of files) ∙ named f.text.references.accumulate.items (accumulate_in (declarations text.lines.items)) (w.0 ∙ words_same text.lines.items);
      }

  -- there are as many as different words at most
  few_of : (ws : List (List ℕ)) → length (each_once (filter_map (signature_of files) ws)) ≤ length (first_names [] ws)
  few_of ws = let h = few (signature_of files) [] [] ws (λ n x a is. absurd (true≢false (sym a))) in omega (arith, h)

  pub few_named : (number : ℕ) (source : List ℕ) (text : ModuleText) → NamesFiles files number source text → length (accum_sig_at files number ++ accumulate_at files number) ≤ many_words source (declarations text.lines.items)
  few_named number source text n =
      let x = ap length n.accum_sig in
      let y = ap length n.accumulate in
      let z = length-append (accum_sig_at files number) (accumulate_at files number) in
      let u = few_of (map (spelled source) (accum_words (declarations text.lines.items))) in
      let v = few_of (map (spelled source) (accumulate_in (declarations text.lines.items))) in
      omega (arith, x, y, z, u, v)

  -- the signatures over which a module is taken are such as texts have
  pub ready : (p number : ℕ) (name : List ℕ) (source : Vec ℕ Global) (text : ModuleText) (own : Signature) (used : List Signature) → IsAt t.numbers.items p number → IsAt t.sources.items p source → IsAt t.texts.items p text →
      IsOwnSignature files g name own → AreSignaturesOf g (accum_sig_at files number ++ accumulate_at files number) used → AreReady own used source.items text.lines.items
  ready p number name source text own used at_number at_source at_text own_is used_are =
      let numbers = accum_sig_at files number ++ accumulate_at files number in
      let l = few_named number source.items text (names_files p number source text at_number at_source at_text) in
      let m = same_length numbers used used_are in
      record {
        apart = apart g own_is.number own own_is.is;
        ordered = ordered g own_is.number own own_is.is;
        whole = whole g own_is.number own own_is.is;
        used_ordered = all_of g IsOrdered (ordered g) numbers used used_are;
        used_whole = all_of g HasWholeBodies (whole g) numbers used used_are;
        few = omega (arith, l, m);
      }

  -- of two modules, one of which accumulates the other, that one sees the signature of the other
  pub sees_signature : (above m : Module) (p q : ℕ) (a : IsModuleAt files g t p above) (b : IsModuleAt files g t q m) → Contains (map (λ u. u.items) above.uses.items) m.name.items
      → (i : ℕ) × (u : Signature) × (slice_get a.used i ≡ Some u) × IsSignatureOf g b.own_is.number u
  sees_signature above m p q a b uses =
      let numbers = accum_sig_at files a.number ++ accumulate_at files a.number in
      let n = names_files p a.number a.source a.text a.at_number a.at_source a.at_text in
      let words = map (spelled a.source.items) (accumulate_in (declarations a.text.lines.items)) in
      let word : Contains words m.name.items = subst (λ ws. Contains ws m.name.items) (a.meaning.uses ∙ ap (map (spelled a.source.items)) (words_same a.text.lines.items)) uses in
      let number : signature_of files m.name.items ≡ Some b.own_is.number = ap (signature_of files) b.meaning.name ∙ b.own_is.first in
      let among : Contains numbers b.own_is.number = Contains-append_right (accum_sig_at files a.number) (accumulate_at files a.number) b.own_is.number
      (subst (λ ns. Contains ns b.own_is.number) (sym n.accumulate) (inserted [] (filter_map (signature_of files) words) b.own_is.number
      (has_number (signature_of files) words m.name.items b.own_is.number word number))) in
      let (i, at) = in_list numbers b.own_is.number among in
      let (u, at_u, is_u) = signature_at numbers a.used a.used_are i b.own_is.number at in
      (i, u, at_u, is_u)

  -- so they are joined
  module _ (signature_texts : AreSignatureTexts files (length files) g) where
    joined_at : (above m : Module) (p q : ℕ) (a : IsModuleAt files g t p above) (b : IsModuleAt files g t q m) → Contains (map (λ u. u.items) above.uses.items) m.name.items → IsJoined above m
    joined_at above m p q a b uses =
        let (i, u, at_u, is_u) = sees_signature above m p q a b uses in
        let r = ready p a.number (string_bytes a.name) a.source a.text a.own a.used a.at_number a.at_source a.at_text a.own_is a.used_are in
        let few_l = r.few in
        let l = slice_get_within a.used i u at_u in
        let seen : SeesAlike u above.signature = a.meaning.theirs.used_ones r.apart r.ordered r.used_ordered i u at_u (omega (arith, few_l, l)) in
        let own_apart = apart g b.own_is.number b.own b.own_is.is in
        let own_ordered = ordered g b.own_is.number b.own b.own_is.is in
        joined_by above m b.own u (record {
          exported_kinds = length b.own.kinds.items;
          exported_constants = length b.own.constants.items;
          kinds = b.meaning.hidden_kinds;
          constants = b.meaning.hidden_constants;
        }) refl refl
        (signature_numbered b.own b.used b.source.items b.text.lines.items m.signature b.meaning.names)
        (own_first b.own b.used b.source.items b.text.lines.items m.signature own_apart b.meaning.names) own_apart own_ordered
        (b.meaning.theirs.own_ones own_apart own_ordered) (same_signature files g signature_texts b.own_is.number u b.own is_u b.own_is.is) seen

module _ (sources : Sources) (modules : List Module) (read : AreRead sources) (are : AreModules sources modules) where
  abbrev files : List File
  files = sources.files.items

  -- a module's meaning
  pub meaning_at : (k : ℕ) (m : Module) → slice_get modules k ≡ Some m → (p : ℕ) × IsModuleAt files are.signatures are.texts p m
  meaning_at k m at = module_at are.meanings.order modules are.meanings.meanings k m at

  -- the name of a module that another one accumulates is a word of it
  pub uses_name : (k j : ℕ) (above m : Module) → slice_get modules k ≡ Some above → Contains (get_or (uses_of modules) k []) j → slice_get modules j ≡ Some m → Contains (map (λ u. u.items) above.uses.items) m.name.items
  uses_name k j above m at_k used at_j =
      let uses = get_or_from_slice_get (uses_of modules) k (numbers_of (names_of modules) (map (λ u. u.items) above.uses.items)) []
      (mapped_at (λ m. numbers_of (names_of modules) (map (λ u. u.items) m.uses.items)) modules k above at_k) in
      let (w, has, first) = named_one (names_of modules) (map (λ u. u.items) above.uses.items) j (subst (λ ns. Contains ns j) uses used) in
      let name : m.name.items ≡ w = same_Some m.name.items w (sym (mapped_at (λ m. m.name.items) modules j m at_j) ∙ place_name (names_of modules) w j first) in
      subst (Contains (map (λ u. u.items) above.uses.items)) (sym name) has

  pub modules_joined : AreJoined modules
  modules_joined = record {
    orderly = λ k d l.
        let m = get_or modules k d in
        let (p, a) = meaning_at k m (slice_get-get_or modules k d l) in
        record { exported_kinds = length a.own.kinds.items; exported_constants = length a.own.constants.items; kinds = a.meaning.hidden_kinds; constants = a.meaning.hidden_constants };
    numbered = λ k m at. let (p, a) = meaning_at k m at in signature_numbered a.own a.used a.source.items a.text.lines.items m.signature a.meaning.names;
    joined = λ k j above m at_k used at_j.
        let (p, a) = meaning_at k above at_k in
        let (q, b) = meaning_at j m at_j in
        joined_at files are.signatures are.texts read.each are.module_texts are.signature_texts above m p q a b (uses_name k j above m at_k used at_j);
  }
