-- What is loaded is a beginning of the order, and what waits is needed next.
use Rattle.std.specs.Global.{Global}
use Rattle.std.proofs.Common.{◌≡◌, ℕ, zero, suc, ◌+◌, ◌<◌, ◌≤◌, Bool, true, false, List, [], ◌∷◌, ◌++◌, Option, Some, None, Result, Ok, Err, length, Vec, refl, sym, ap, subst, ◌∙◌, append_assoc, append-nil, not, true≢false, arith}
use Rattle.std.specs.Prelude.{Contains, IfErr, IfSome, String, drop, string_bytes, ◌||◌}
use Rattle.std.specs.List.{list_any}
use Rattle.std.specs.Str.{bytes_eq}
use Rattle.std.proofs.lemmas.List.{drop_more, drop_all, get_or_default}
use Rattle.indexmap.specs.IndexSet.{IndexSet}
use Rattle.lp_lemmas.proofs.Booleans.{bytes_eq_self, bytes_eq_true}
use Rattle.lp_lemmas.proofs.Elements.{Contains_head, Contains_tail}
use Rattle.lp_base.specs.Held.{Held}
use Rattle.lp_base.specs.declared.limit.Limit.TheVariants as limit
use Rattle.lp_base.specs.declared.limits.TheConstants.{MAX_MODULES, MAX_NAME_BYTES}
use Rattle.lp_base.specs.declared.place.Spot.{Spot}
use Rattle.lp_sig.specs.Pieces.{spelled}
use Rattle.lp_sig.specs.Refusals.{IsAt}
use Rattle.lp_sig.specs.Said.{is_among}
use Rattle.lp_sig.specs.Sights.{HasKeys}
use Rattle.lp_sig.proofs.Abbreviating.{among_append}
use Rattle.lp_build.specs.Loads.{IsOfReading, IsOfText, IsOfWord, names_of}
use Rattle.lp_build.specs.Ordered.{AreInOrder, AreInOrderSoFar, IsDue, IsFileOf, IsOfLoading, IsRefusedAt, IsText, IsThere, IsTooLong, Loads, Need, accumulated, asked, asked_by, both, file_of, is_loaded, is_there, loads_none, named_by, needed, signature}
use Rattle.lp_build.specs.Told.{IsFaultAt, IsFaultOf, IsTold}
use Rattle.lp_build.specs.declared.fault.BuildFault.{BuildFault}
use Rattle.lp_build.specs.declared.fault.BuildFault.TheVariants as fault
use Rattle.lp_build.specs.declared.sources.File.{File}
use Rattle.lp_build.specs.declared.sources.Part.{Part}
use Rattle.lp_build.specs.declared.sources.Part.TheVariants as part
use Rattle.lp_build.specs.declared.sources.Sources.{Sources}
use Rattle.lp_build.specs.declared.sources.Text.{Text}
use Rattle.lp_build.specs.declared.walk.Loading.{Loading}
use Rattle.lp_build.specs.declared.walk.Work.{Work}
use Rattle.lp_build.specs.declared.walk.Work.TheVariants as work
use Rattle.lp_build.specs.inner.Walking.{AreOwed, IsLoadedAt, IsNoName, IsNotLoaded, IsOfFile, IsOwed, IsWalk, IsWordAt}

-- a fault of the bytes that stand under a name
fault_of_text : (told : Option Held) (name text : List ℕ) (n : ℕ) (e : BuildFault) → IsTold told name text → IsOfText n e → IsFaultOf text e → IsFaultAt told name e
fault_of_text told name text n (fault.Lex k e) there i f = (text, (there, f))
fault_of_text told name text n fault.Memory there i f = tt
fault_of_text told name text n (fault.Read k) there i f = tt
fault_of_text told name text n (fault.Missing k) there i f = absurd i
fault_of_text told name text n (fault.Syntax e) there i f = tt
fault_of_text told name text n (fault.Sig e) there i f = tt
fault_of_text told name text n (fault.Module e) there i f = tt
fault_of_text told name text n (fault.Limit l) there i f = absurd i

pub text_faults : (told : Option Held) (name text : List ℕ) (n : ℕ) (r : Result Text BuildFault) → IsTold told name text → IfErr r (IsOfText n) → IfErr r (IsFaultOf text) → IfErr r (IsFaultAt told name)
text_faults told name text n (Ok x) there i f = tt
text_faults told name text n (Err e) there i f = fault_of_text told name text n e there i f

-- the file at fault is the next one
pub reading_so : (n : ℕ) (files : List File) (e : BuildFault) → n ≡ length files → length files < MAX_MODULES → IsOfReading n e → IsOfFile files e
reading_so n files (fault.Read k) is few h = (few, sym is ∙ h)
reading_so n files (fault.Missing k) is few h = (few, sym is ∙ h)
reading_so n files (fault.Lex k e) is few h = (few, sym is ∙ h.0, h.1)
reading_so n files (fault.Syntax e) is few h = absurd h
reading_so n files (fault.Sig e) is few h = absurd h
reading_so n files (fault.Module e) is few h = absurd h
reading_so n files (fault.Limit limit.File) is few h = few
reading_so n files (fault.Limit limit.Image) is few h = absurd h
reading_so n files (fault.Limit limit.Modules) is few h = absurd h
reading_so n files (fault.Limit limit.Copies) is few h = absurd h
reading_so n files (fault.Limit limit.Names) is few h = absurd h
reading_so n files (fault.Limit limit.NameLength) is few h = absurd h
reading_so n files (fault.Limit limit.Arguments) is few h = absurd h
reading_so n files (fault.Limit limit.Nesting) is few h = absurd h
reading_so n files (fault.Limit limit.NormalForm) is few h = absurd h
reading_so n files (fault.Limit limit.Clauses) is few h = absurd h
reading_so n files (fault.Limit limit.Registers) is few h = absurd h
reading_so n files (fault.Limit limit.Text) is few h = absurd h
reading_so n files fault.Memory is few h = tt

-- a text that is to be loaded is refused for the fault of its file
at_file : (files : List File) (n : Need) (e : BuildFault) → IsDue files n → IsOfFile files e → IsRefusedAt files n e
at_file files n (fault.Read k) due h = ((due, h.0), h.1)
at_file files n (fault.Missing k) due h = ((due, h.0), h.1)
at_file files n (fault.Lex k e) due h = ((due, h.0), h.1, h.2)
at_file files n (fault.Syntax e) due h = h
at_file files n (fault.Sig e) due h = h
at_file files n (fault.Module e) due h = h
at_file files n (fault.Limit limit.File) due h = (due, h)
at_file files n (fault.Limit limit.Image) due h = h
at_file files n (fault.Limit limit.Modules) due h = (due, h)
at_file files n (fault.Limit limit.Copies) due h = h
at_file files n (fault.Limit limit.Names) due h = h
at_file files n (fault.Limit limit.NameLength) due h = absurd h
at_file files n (fault.Limit limit.Arguments) due h = h
at_file files n (fault.Limit limit.Nesting) due h = h
at_file files n (fault.Limit limit.NormalForm) due h = h
at_file files n (fault.Limit limit.Clauses) due h = h
at_file files n (fault.Limit limit.Registers) due h = h
at_file files n (fault.Limit limit.Text) due h = h
at_file files n fault.Memory due h = tt

-- a text that a word asks for is refused for this word
at_word : (files : List File) (n : Need) (text : List ℕ) (w : Spot) (e : BuildFault) → n.word ≡ true → n.name ≡ spelled text w → IsOfWord text w e → IsRefusedAt files n e
at_word files n text w (fault.Limit limit.NameLength) word is h = (word, subst (λ name. MAX_NAME_BYTES < length name) (sym is) h)
at_word files n text w fault.Memory word is h = tt
at_word files n text w (fault.Read k) word is h = absurd h
at_word files n text w (fault.Missing k) word is h = absurd h
at_word files n text w (fault.Lex k e) word is h = absurd h
at_word files n text w (fault.Syntax e) word is h = h
at_word files n text w (fault.Sig e) word is h = h
at_word files n text w (fault.Module e) word is h = h
at_word files n text w (fault.Limit limit.File) word is h = absurd h
at_word files n text w (fault.Limit limit.Image) word is h = h
at_word files n text w (fault.Limit limit.Modules) word is h = absurd h
at_word files n text w (fault.Limit limit.Copies) word is h = h
at_word files n text w (fault.Limit limit.Names) word is h = h
at_word files n text w (fault.Limit limit.Arguments) word is h = h
at_word files n text w (fault.Limit limit.Nesting) word is h = h
at_word files n text w (fault.Limit limit.NormalForm) word is h = h
at_word files n text w (fault.Limit limit.Clauses) word is h = h
at_word files n text w (fault.Limit limit.Registers) word is h = h
at_word files n text w (fault.Limit limit.Text) word is h = h

-- what no word asks for has no name that is too long
pub fits : (p : Part) (name : List ℕ) → IsTooLong (needed p name) → ⊥
fits p name h = true≢false (sym h.0)

-- the order, with one more step at its end

pub passed : {all : Bool} {before files : List File} {needs left : List Need} {n : Need} → Loads all before needs files (n ∷ left) → (IsTooLong n → ⊥) → IsThere (before ++ files) n → Loads all before needs files left
passed {before = before} {n = n} loads_none short there = is_there short (subst (λ fs. IsThere fs n) (append-nil before) there) loads_none
passed (is_there fit old rest) short there = is_there fit old (passed rest short there)
passed {before = before} {n = n} (is_loaded {f = f} {files = files} fit new is rest) short there =
    is_loaded fit new is (passed rest short (subst (λ fs. IsThere fs n) (sym (append_assoc before (f ∷ []) files)) there))

pub one_more : {all : Bool} {before files : List File} {needs left : List Need} {n : Need} {g : File} → Loads all before needs files (n ∷ left) → (IsTooLong n → ⊥) → (IsThere (before ++ files) n → ⊥) → IsText n g →
    Loads all before needs (files ++ g ∷ []) (named_by all g.part g.text ++ left)
one_more {before = before} {n = n} loads_none short new is = is_loaded short (λ t. new (subst (λ fs. IsThere fs n) (sym (append-nil before)) t)) is loads_none
one_more (is_there fit old rest) short new is = is_there fit old (one_more rest short new is)
one_more {before = before} {n = n} (is_loaded {f = f} {files = files} fit first so rest) short new is =
    is_loaded fit first so (one_more rest short (λ t. new (subst (λ fs. IsThere fs n) (append_assoc before (f ∷ []) files) t)) is)

-- names that are noted

among_there : (n : List ℕ) (ns : List (List ℕ)) → is_among n ns ≡ true → Contains ns n
among_there n [] e = absurd (true≢false (sym e))
among_there n (m ∷ ms) e = by (among_there n ms) (bytes_eq n m) refl e
  where
    by : (is_among n ms ≡ true → Contains ms n) → (t : Bool) → bytes_eq n m ≡ t → (t || is_among n ms) ≡ true → Contains (m ∷ ms) n
    by rest true same e = subst (λ x. Contains (m ∷ ms) x) (sym (bytes_eq_true n m same)) (Contains_head m ms)
    by rest false other e = Contains_tail m n ms (rest e)

there_among : (n : List ℕ) (ns : List (List ℕ)) → Contains ns n → is_among n ns ≡ true
there_among n [] (k, lt, e) = absurd (omega (arith, lt))
there_among n (m ∷ ms) (zero, lt, e) = ap (λ x. bytes_eq n x || is_among n ms) e ∙ ap (λ t. t || is_among n ms) (bytes_eq_self n)
there_among n (m ∷ ms) (suc k, lt, e) = or_true (bytes_eq n m) (is_among n ms) (there_among n ms (k, omega (arith, lt), e))
  where
    or_true : (a b : Bool) → b ≡ true → (a || b) ≡ true
    or_true true b e = refl
    or_true false b e = e

-- whether a name is new
pub new_is : {S : Type 0} (set : IndexSet (Vec ℕ Global) S) (names : List (List ℕ)) (key : Vec ℕ Global) (n : List ℕ) (fresh : Bool) → key.items ≡ n → fresh ≡ not (list_any (λ x. bytes_eq key.items x.items) set.keys) →
    HasKeys set names → is_among n names ≡ not fresh
new_is set names key n fresh is e h = sym (ap (λ k. is_among k names) is) ∙ sym (h key.items) ∙ twice (list_any (λ x. bytes_eq key.items x.items) set.keys) ∙ ap not (sym e)
  where
    twice : (b : Bool) → b ≡ not (not b)
    twice true = refl
    twice false = refl

-- a name that was there already is no other one
keys_again : {S : Type 0} (set : IndexSet (Vec ℕ Global) S) (names : List (List ℕ)) (n : List ℕ) → is_among n names ≡ true → HasKeys set (names ++ n ∷ []) → HasKeys set names
keys_again set names n there h = λ m. h m ∙ among_append m names (n ∷ []) ∙ by m (bytes_eq m n) refl (is_among m names) refl
  where
    by : (m : List ℕ) (t : Bool) → bytes_eq m n ≡ t → (a : Bool) → is_among m names ≡ a → (a || (t || false)) ≡ a
    by m t e true f = refl
    by m false e false f = refl
    by m true e false f = absurd (true≢false (sym there ∙ ap (λ x. is_among x names) (sym (bytes_eq_true m n e)) ∙ f))

-- what waits

at_later : {X : Type 0} (xs ys : List X) (i : ℕ) (x : X) → IsAt xs i x → IsAt (xs ++ ys) i x
at_later [] ys i x at = let lt = at.0 in absurd (omega (arith, lt))
at_later (z ∷ xs) ys zero x at = let lt : 0 < suc (length (xs ++ ys)) = omega arith in (lt, at.1)
at_later (z ∷ xs) ys (suc i) x at =
    let below = at.0 in
    let rest = at_later xs ys i x (omega (arith, below), at.1) in
    let lt = rest.0 in
    (omega (arith, lt), rest.1)

pub last_is : {X : Type 0} (xs : List X) (x : X) → IsAt (xs ++ x ∷ []) (length xs) x
last_is [] x = let lt : 0 < 1 = omega arith in (lt, refl)
last_is (z ∷ xs) x = let rest = last_is xs x in let lt = rest.0 in (omega (arith, lt), rest.1)

owed_later : (all : Bool) (fs gs : List File) (w : Work) (needs : List Need) → IsOwed all fs w needs → IsOwed all (fs ++ gs) w needs
owed_later all fs gs (work.Signatures i at) needs h = (h.0, at_later fs gs i h.0 h.1, h.2)
owed_later all fs gs (work.Module n) needs h = h
owed_later all fs gs (work.Accumulated i at) needs h = (h.0, at_later fs gs i h.0 h.1, h.2)

all_owed_later : (all : Bool) (fs gs : List File) (ws : List Work) (needs : List Need) → AreOwed all fs ws needs → AreOwed all (fs ++ gs) ws needs
all_owed_later all fs gs [] needs h = h
all_owed_later all fs gs (w ∷ ws) needs h = (h.0, h.1, all_owed_later all fs gs ws h.0 h.2, owed_later all fs gs w h.1 h.3, h.4)

-- one more piece of work
pub owed_more : (all : Bool) (fs : List File) (ws : List Work) (w : Work) (mine needs : List Need) → IsOwed all fs w mine → AreOwed all fs ws needs → AreOwed all fs (ws ++ w ∷ []) (mine ++ needs)
owed_more all fs [] w mine needs is h = ([], mine, refl, is, ap (λ l. mine ++ l) h ∙ append-nil mine)
owed_more all fs (v ∷ ws) w mine needs is h =
    (mine ++ h.0, h.1, owed_more all fs ws w mine h.0 is h.2, h.3, ap (λ l. mine ++ l) h.4 ∙ sym (append_assoc mine h.0 h.1))

-- what a file names waits
pub signature_owed : (all : Bool) (fs : List File) (ws vs : List Work) (i : ℕ) (f : File) (p : Part) (left : List Need) → vs ≡ ws ++ work.Signatures i 0 ∷ [] → p ≡ part.Signature → IsAt fs i f → f.part ≡ p → AreOwed all fs ws left →
    AreOwed all fs vs (named_by all f.part f.text ++ left)
signature_owed all fs ws vs i f p left e s at is h =
    subst (λ v. AreOwed all fs v (named_by all f.part f.text ++ left)) (sym e)
    (subst (λ q. AreOwed all fs (ws ++ work.Signatures i 0 ∷ []) (named_by all q f.text ++ left)) (sym (is ∙ s))
    (owed_more all fs ws (work.Signatures i 0) (named_by all part.Signature f.text) left (f, at, refl) h))

pub own_owed : (all : Bool) (fs : List File) (ws us vs : List Work) (i : ℕ) (f : File) (p : Part) (left : List Need) → us ≡ ws ++ work.Accumulated i 0 ∷ [] → vs ≡ us ++ work.Signatures i 0 ∷ [] → p ≡ part.Module →
    IsAt fs i f → f.part ≡ p → AreOwed all fs ws left → AreOwed all fs vs (named_by all f.part f.text ++ left)
own_owed all fs ws us vs i f p left u e s at is h =
    let sigs = asked_by signature f.text.bytes.items f.text.references.accum_sig.items in
    let mods = asked_by (accumulated all) f.text.bytes.items f.text.references.accumulate.items in
    subst (λ v. AreOwed all fs v (named_by all f.part f.text ++ left)) (sym e)
    (subst (λ q. AreOwed all fs (us ++ work.Signatures i 0 ∷ []) (named_by all q f.text ++ left)) (sym (is ∙ s))
    (subst (AreOwed all fs (us ++ work.Signatures i 0 ∷ [])) (sym (append_assoc sigs mods left))
    (owed_more all fs us (work.Signatures i 0) sigs (mods ++ left) (f, at, refl)
    (subst (λ v. AreOwed all fs v (mods ++ left)) (sym u) (owed_more all fs ws (work.Accumulated i 0) mods left (f, at, refl) h)))))

pub module_owed : (all : Bool) (fs : List File) (ws vs : List Work) (m : String Global) (name : List ℕ) (left : List Need) → vs ≡ ws ++ work.Module m ∷ [] → string_bytes m ≡ name → AreOwed all fs ws left → AreOwed all fs vs (needed part.Module name ∷ left)
module_owed all fs ws vs m name left e is h =
    subst (λ v. AreOwed all fs v (needed part.Module name ∷ left)) (sym e)
    (subst (λ n. AreOwed all fs (ws ++ work.Module m ∷ []) (needed part.Module n ∷ left)) is (owed_more all fs ws (work.Module m) (needed part.Module (string_bytes m) ∷ []) left refl h))

-- the last one is taken
owed_taken : (all : Bool) (fs : List File) (ws : List Work) (w : Work) (needs : List Need) → AreOwed all fs (ws ++ w ∷ []) needs → (mine rest : List Need) × IsOwed all fs w mine × AreOwed all fs ws rest × (needs ≡ mine ++ rest)
owed_taken all fs [] w needs h = (h.1, [], h.3, refl, h.4 ∙ ap (λ l. l ++ h.1) h.2 ∙ sym (append-nil h.1))
owed_taken all fs (v ∷ ws) w needs h =
    let t = owed_taken all fs ws w h.0 h.2 in
    (t.0, t.1 ++ h.1, t.2, (t.1, h.1, t.3, h.3, refl), h.4 ∙ ap (λ l. l ++ h.1) t.4 ∙ append_assoc t.0 t.1 h.1)

-- the walk

no_fault : (o : Option (String Global)) (P : String Global → Type 0) → o ≡ None → IfSome o P
no_fault o P e = subst (λ x. IfSome x P) (sym e) tt

no_cause : (files : List File) (left : List Need) → IsOfLoading files left fault.Memory
no_cause files [] = tt
no_cause files (n ∷ left) = tt

-- it ends for want of memory
pub so_far : (all : Bool) (root : List ℕ) (next : List Need) (l : Loading) → IsWalk all root next l → AreInOrderSoFar all root l.sources fault.Memory
so_far all root next l w = record {
  left = next ++ w.left;
  order = w.order;
  fault = no_cause l.sources.files.items (next ++ w.left);
  file = no_fault l.sources.refused (IsFileOf (next ++ w.left)) w.none;
}

pub so_far_same : (all : Bool) (root : List ℕ) (next : List Need) (l : Loading) (s : Sources) → s ≡ l.sources → IsWalk all root next l → AreInOrderSoFar all root s fault.Memory
so_far_same all root next l s e w = subst (λ x. AreInOrderSoFar all root x fault.Memory) (sym e) (so_far all root next l w)

-- the word by which it goes on is too long
so_far_at_word : (all : Bool) (root : List ℕ) (n : Need) (more : List Need) (l : Loading) (text : List ℕ) (w : Spot) (e : BuildFault) → n.word ≡ true → n.name ≡ spelled text w → IsOfWord text w e → IsWalk all root (n ∷ more) l → AreInOrderSoFar all root l.sources e
so_far_at_word all root n more l text w e word is h walk = record {
  left = n ∷ more ++ walk.left;
  order = walk.order;
  fault = at_word l.sources.files.items n text w e word is h;
  file = no_fault l.sources.refused (IsFileOf (n ∷ more ++ walk.left)) walk.none;
}

-- the next text is there
pub walk_there : (all : Bool) (root : List ℕ) (n : Need) (old new : Loading) → new.all ≡ old.all → new.sources ≡ old.sources → new.work ≡ old.work →
    (IsTooLong n → ⊥) → is_among (file_of n) (names_of old.sources.files.items) ≡ true → HasKeys new.names (names_of old.sources.files.items ++ file_of n ∷ []) → IsWalk all root (n ∷ []) old → IsWalk all root [] new
walk_there all root n old new a s v short there keys w = record {
  is = a ∙ w.is;
  left = w.left;
  order = subst (λ x. Loads all [] (both root) x.files.items w.left) (sym s) (passed w.order short (among_there (file_of n) (names_of old.sources.files.items) there));
  owed = subst (λ x. AreOwed all x.files.items new.work.items w.left) (sym s) (subst (λ x. AreOwed all old.sources.files.items x.items w.left) (sym v) w.owed);
  names = subst (λ x. HasKeys new.names (names_of x.files.items)) (sym s) (keys_again new.names (names_of old.sources.files.items) (file_of n) there keys);
  none = ap (λ x. x.refused) s ∙ w.none;
}

not_there : (n : Need) (files : List File) → is_among (file_of n) (names_of files) ≡ false → IsThere files n → ⊥
not_there n files e h = true≢false (sym (there_among (file_of n) (names_of files) h) ∙ e)

-- it is not, and was not loaded
pub so_far_at_fault : (all : Bool) (root : List ℕ) (n : Need) (old : Loading) (s : Sources) (e : BuildFault) → (IsTooLong n → ⊥) → is_among (file_of n) (names_of old.sources.files.items) ≡ false → IsNotLoaded (needed n.part n.name) old.sources s e →
    IsWalk all root (n ∷ []) old → AreInOrderSoFar all root s e
so_far_at_fault all root n old s e short new not w = record {
  left = n ∷ w.left;
  order = subst (λ fs. Loads all [] (both root) fs (n ∷ w.left)) (sym not.files) w.order;
  fault = subst (λ fs. IsRefusedAt fs n e) (sym not.files) (at_file old.sources.files.items n e (short, not_there n old.sources.files.items new) not.fault);
  file = by s.refused not.file;
}
  where
    by : (o : Option (String Global)) → IfSome o (λ name. old.sources.refused ≡ None → string_bytes name ≡ file_of n) → IfSome o (IsFileOf (n ∷ w.left))
    by None h = tt
    by (Some name) h = h w.none

-- it is loaded
as_asked : (n : Need) (f : File) → IsText (needed n.part n.name) f → IsText n f
as_asked n f is = record { part = is.part; stem = is.stem; name = is.name }

loaded_order : (all : Bool) (root : List ℕ) (n : Need) (old : Loading) (s : Sources) (at : ℕ) → (IsTooLong n → ⊥) → is_among (file_of n) (names_of old.sources.files.items) ≡ false → (l : IsLoadedAt (needed n.part n.name) old.sources s at) →
    (w : IsWalk all root (n ∷ []) old) → Loads all [] (both root) s.files.items (named_by all l.file.part l.file.text ++ w.left)
loaded_order all root n old s at short new l w =
    subst (λ fs. Loads all [] (both root) fs (named_by all l.file.part l.file.text ++ w.left)) (sym l.files)
    (one_more w.order short (not_there n old.sources.files.items new) (as_asked n l.file l.is))

pub so_far_loaded : (all : Bool) (root : List ℕ) (n : Need) (old : Loading) (s : Sources) (at : ℕ) → (IsTooLong n → ⊥) → is_among (file_of n) (names_of old.sources.files.items) ≡ false → IsLoadedAt (needed n.part n.name) old.sources s at →
    IsWalk all root (n ∷ []) old → AreInOrderSoFar all root s fault.Memory
so_far_loaded all root n old s at short new l w =
    let left = named_by all l.file.part l.file.text ++ w.left in
    record { left = left; order = loaded_order all root n old s at short new l w; fault = no_cause s.files.items left; file = no_fault s.refused (IsFileOf left) (l.refused ∙ w.none) }

names_more : (fs : List File) (f : File) → names_of (fs ++ f ∷ []) ≡ names_of fs ++ string_bytes f.name ∷ []
names_more [] f = refl
names_more (g ∷ fs) f = ap (λ l. string_bytes g.name ∷ l) (names_more fs f)

pub walk_loaded : (all : Bool) (root : List ℕ) (n : Need) (old new : Loading) (s : Sources) (at : ℕ) → new.all ≡ old.all → new.sources ≡ s → (IsTooLong n → ⊥) → is_among (file_of n) (names_of old.sources.files.items) ≡ false →
    HasKeys new.names (names_of old.sources.files.items ++ file_of n ∷ []) → (l : IsLoadedAt (needed n.part n.name) old.sources s at) →
    ((f : File) (left : List Need) → IsAt s.files.items at f → f.part ≡ n.part → AreOwed all s.files.items old.work.items left → AreOwed all s.files.items new.work.items (named_by all f.part f.text ++ left)) →
    IsWalk all root (n ∷ []) old → IsWalk all root [] new
walk_loaded all root n old new s at a e short fresh keys l owed w = record {
  is = a ∙ w.is;
  left = named_by all l.file.part l.file.text ++ w.left;
  order = subst (λ x. Loads all [] (both root) x.files.items (named_by all l.file.part l.file.text ++ w.left)) (sym e) (loaded_order all root n old s at short fresh l w);
  owed = subst (λ x. AreOwed all x.files.items new.work.items (named_by all l.file.part l.file.text ++ w.left)) (sym e)
      (owed l.file w.left
      (subst (λ fs. IsAt fs at l.file) (sym l.files) (subst (λ i. IsAt (old.sources.files.items ++ l.file ∷ []) i l.file) (sym l.last) (last_is old.sources.files.items l.file))) l.is.part
      (subst (λ fs. AreOwed all fs old.work.items w.left) (sym l.files) (all_owed_later all old.sources.files.items (l.file ∷ []) old.work.items w.left w.owed)));
  names = subst (λ x. HasKeys new.names (names_of x.files.items)) (sym e)
      (subst (λ fs. HasKeys new.names (names_of fs)) (sym l.files)
      (subst (HasKeys new.names) (ap (λ m. names_of old.sources.files.items ++ m ∷ []) (sym l.is.name) ∙ sym (names_more old.sources.files.items l.file)) keys));
  none = ap (λ x. x.refused) e ∙ l.refused ∙ w.none;
}

-- what is needed next goes to what waits
pub walk_waits : (all : Bool) (root : List ℕ) (next later : List Need) (old new : Loading) → new.all ≡ old.all → new.sources ≡ old.sources → new.names ≡ old.names →
    ((left : List Need) → AreOwed all old.sources.files.items old.work.items left → AreOwed all old.sources.files.items new.work.items (later ++ left)) → IsWalk all root (next ++ later) old → IsWalk all root next new
walk_waits all root next later old new a s k owed w = record {
  is = a ∙ w.is;
  left = later ++ w.left;
  order = subst (λ x. Loads all [] (both root) x.files.items (next ++ (later ++ w.left))) (sym s) (subst (Loads all [] (both root) old.sources.files.items) (append_assoc next later w.left) w.order);
  owed = subst (λ x. AreOwed all x.files.items new.work.items (later ++ w.left)) (sym s) (owed w.left w.owed);
  names = subst (λ x. HasKeys x (names_of new.sources.files.items)) (sym k) (subst (λ x. HasKeys old.names (names_of x.files.items)) (sym s) w.names);
  none = ap (λ x. x.refused) s ∙ w.none;
}

-- no file is at fault
unblamed : (o : Option (String Global)) (is : List ℕ) → IfSome o (λ name. o ≡ None → string_bytes name ≡ is)
unblamed None is = tt
unblamed (Some name) is = λ e. absurd (cc)

pub not_at_fault : (n : Need) (s : Sources) (e : BuildFault) → IsOfFile s.files.items e → IsNotLoaded n s s e
not_at_fault n s e h = record { files = refl; fault = h; file = unblamed s.refused (file_of n) }

-- the file of a number is one
same_file : (files : List File) (i : ℕ) (f g : File) → IsAt files i f → IsAt files i g → f ≡ g
same_file files i f g at to = sym at.1 ∙ get_or_default files i f g at.0 ∙ to.1

pub word_of : (words : File → List Spot) (files : List File) (i at : ℕ) (f g : File) (o : Option (String Global)) → IsAt files i f → IsAt files i g → IsWordAt f.text.bytes.items (words f) at o → IsWordAt g.text.bytes.items (words g) at o
word_of words files i at f g o here there h = subst (λ (x : File). IsWordAt x.text.bytes.items (words x) at o) (same_file files i f g here there) h

pub no_name_of : (words : File → List Spot) (files : List File) (i at : ℕ) (f g : File) (e : BuildFault) → IsAt files i f → IsAt files i g → IsNoName f.text.bytes.items (words f) at e → IsNoName g.text.bytes.items (words g) at e
no_name_of words files i at f g e here there h = subst (λ (x : File). IsNoName x.text.bytes.items (words x) at e) (same_file files i f g here there) h

-- words of a text, from a place on

asked_on : (ask : List ℕ → List Need) (text : List ℕ) (words : List Spot) (at : ℕ) (w : Spot) → IsAt words at w → asked_by ask text (drop at words) ≡ ask (spelled text w) ++ asked_by ask text (drop (at + 1) words)
asked_on ask text words at w is = ap (asked_by ask text) (drop_more words at w is.0) ∙ ap (λ x. ask (spelled text x) ++ asked_by ask text (drop (at + 1) words)) is.1

pub asked_next : (ask : List ℕ → List Need) (text : List ℕ) (words : List Spot) (at next : ℕ) (name : String Global) (o : Option (String Global)) (needs : List Need) → o ≡ Some name →
    next ≡ at + 1 → IsWordAt text words at o → needs ≡ asked_by ask text (drop at words) → needs ≡ ask (string_bytes name) ++ asked_by ask text (drop next words)
asked_next ask text words at next name None needs e k h q = absurd (cc)
asked_next ask text words at next name (Some n) needs e k h q =
    let same : n ≡ name = cc in
    q ∙ asked_on ask text words at h.0 h.1 ∙ ap (λ x. ask x ++ asked_by ask text (drop (at + 1) words)) (sym h.2 ∙ ap string_bytes same) ∙ ap (λ x. ask (string_bytes name) ++ asked_by ask text (drop x words)) (sym k)

pub asked_no_more : (ask : List ℕ → List Need) (text : List ℕ) (words : List Spot) (at : ℕ) (o : Option (String Global)) (needs : List Need) → o ≡ None → IsWordAt text words at o → needs ≡ asked_by ask text (drop at words) → needs ≡ []
asked_no_more ask text words at None needs e h q = q ∙ ap (asked_by ask text) (drop_all at words h)
asked_no_more ask text words at (Some n) needs e h q = absurd (cc)

-- the word of a place is needed next, and what is behind it waits
pub signatures_wait : (all : Bool) (root : List ℕ) (old new : Loading) (i at next : ℕ) (name : String Global) (needs : List Need) → new.all ≡ old.all → new.sources ≡ old.sources → new.names ≡ old.names →
    new.work.items ≡ old.work.items ++ work.Signatures i next ∷ [] → ((f : File) → at < length f.text.references.accum_sig.items → next ≡ at + 1) → ((f : File) → IsAt old.sources.files.items i f → IsWordAt f.text.bytes.items f.text.references.accum_sig.items at (Some name)) →
    IsOwed all old.sources.files.items (work.Signatures i at) needs → IsWalk all root needs old → IsWalk all root (signature (string_bytes name)) new
signatures_wait all root old new i at next name needs a s k v n word owed w =
    let f = owed.0 in
    let later = asked_by signature f.text.bytes.items (drop next f.text.references.accum_sig.items) in
    walk_waits all root (signature (string_bytes name)) later old new a s k
    (λ left h. subst (λ x. AreOwed all old.sources.files.items x (later ++ left)) (sym v) (owed_more all old.sources.files.items old.work.items (work.Signatures i next) later left (f, owed.1, refl) h))
    (subst (λ x. IsWalk all root x old) (asked_next signature f.text.bytes.items f.text.references.accum_sig.items at next name (Some name) needs refl (n f (word f owed.1).1.0) (word f owed.1) owed.2) w)

pub modules_wait : (all : Bool) (root : List ℕ) (old new : Loading) (i at next : ℕ) (name : String Global) (needs : List Need) → new.all ≡ old.all → new.sources ≡ old.sources → new.names ≡ old.names →
    new.work.items ≡ old.work.items ++ work.Accumulated i next ∷ [] → ((f : File) → at < length f.text.references.accumulate.items → next ≡ at + 1) → ((f : File) → IsAt old.sources.files.items i f → IsWordAt f.text.bytes.items f.text.references.accumulate.items at (Some name)) →
    IsOwed all old.sources.files.items (work.Accumulated i at) needs → IsWalk all root needs old → IsWalk all root (accumulated all (string_bytes name)) new
modules_wait all root old new i at next name needs a s k v n word owed w =
    let f = owed.0 in
    let later = asked_by (accumulated all) f.text.bytes.items (drop next f.text.references.accumulate.items) in
    walk_waits all root (accumulated all (string_bytes name)) later old new a s k
    (λ left h. subst (λ x. AreOwed all old.sources.files.items x (later ++ left)) (sym v) (owed_more all old.sources.files.items old.work.items (work.Accumulated i next) later left (f, owed.1, refl) h))
    (subst (λ x. IsWalk all root x old) (asked_next (accumulated all) f.text.bytes.items f.text.references.accumulate.items at next name (Some name) needs refl (n f (word f owed.1).1.0) (word f owed.1) owed.2) w)

-- the word that is next is no longer than a name
pub short_word : (text : List ℕ) (words : List Spot) (at : ℕ) (name : String Global) (o : Option (String Global)) → o ≡ Some name → IsWordAt text words at o → IsTooLong (asked true part.Signature (string_bytes name)) → ⊥
short_word text words at name None e h long = absurd (cc)
short_word text words at name (Some n) e h long =
    let same : n ≡ name = cc in
    let short = subst (λ m. length (string_bytes m) ≤ MAX_NAME_BYTES) same h.3 in
    let more = long.1 in
    omega (arith, short, more)

-- it is longer
pub no_signature_name : (all : Bool) (root : List ℕ) (old : Loading) (i at : ℕ) (needs : List Need) (e : BuildFault) → ((f : File) → IsAt old.sources.files.items i f → IsNoName f.text.bytes.items f.text.references.accum_sig.items at e) →
    IsOwed all old.sources.files.items (work.Signatures i at) needs → IsWalk all root needs old → AreInOrderSoFar all root old.sources e
no_signature_name all root old i at needs e word owed w =
    let f = owed.0 in
    let why = word f owed.1 in
    let text = f.text.bytes.items in
    let words = f.text.references.accum_sig.items in
    so_far_at_word all root (asked true part.Signature (spelled text why.0)) (asked_by signature text (drop (at + 1) words)) old text why.0 e refl refl why.2
    (subst (λ x. IsWalk all root x old) (owed.2 ∙ asked_on signature text words at why.0 why.1) w)

pub no_module_name : (all : Bool) (root : List ℕ) (old : Loading) (i at : ℕ) (needs : List Need) (e : BuildFault) → ((f : File) → IsAt old.sources.files.items i f → IsNoName f.text.bytes.items f.text.references.accumulate.items at e) →
    IsOwed all old.sources.files.items (work.Accumulated i at) needs → IsWalk all root needs old → AreInOrderSoFar all root old.sources e
no_module_name all root old i at needs e word owed w =
    let f = owed.0 in
    let why = word f owed.1 in
    let text = f.text.bytes.items in
    let words = f.text.references.accumulate.items in
    by all (asked_by (accumulated all) text (drop (at + 1) words)) text why.0 why.2 (subst (λ x. IsWalk all root x old) (owed.2 ∙ asked_on (accumulated all) text words at why.0 why.1) w)
  where
    by : (a : Bool) (rest : List Need) (text : List ℕ) (v : Spot) → IsOfWord text v e → IsWalk all root (accumulated a (spelled text v) ++ rest) old → AreInOrderSoFar all root old.sources e
    by true rest text v h walk = so_far_at_word all root (asked true part.Signature (spelled text v)) (needed part.Module (spelled text v) ∷ rest) old text v e refl refl h walk
    by false rest text v h walk = so_far_at_word all root (asked true part.Signature (spelled text v)) rest old text v e refl refl h walk

-- there is no word at the place
pub no_signature : (all : Bool) (root : List ℕ) (old : Loading) (i at : ℕ) (needs : List Need) → ((f : File) → IsAt old.sources.files.items i f → IsWordAt f.text.bytes.items f.text.references.accum_sig.items at None) →
    IsOwed all old.sources.files.items (work.Signatures i at) needs → IsWalk all root needs old → IsWalk all root [] old
no_signature all root old i at needs word owed w =
    let f = owed.0 in
    subst (λ x. IsWalk all root x old) (asked_no_more signature f.text.bytes.items f.text.references.accum_sig.items at None needs refl (word f owed.1) owed.2) w

pub no_module : (all : Bool) (root : List ℕ) (old : Loading) (i at : ℕ) (needs : List Need) → ((f : File) → IsAt old.sources.files.items i f → IsWordAt f.text.bytes.items f.text.references.accumulate.items at None) →
    IsOwed all old.sources.files.items (work.Accumulated i at) needs → IsWalk all root needs old → IsWalk all root [] old
no_module all root old i at needs word owed w =
    let f = owed.0 in
    subst (λ x. IsWalk all root x old) (asked_no_more (accumulated all) f.text.bytes.items f.text.references.accumulate.items at None needs refl (word f owed.1) owed.2) w

-- one piece of work is taken
pub walk_taken : (all : Bool) (root : List ℕ) (old new : Loading) (w : Work) → new.all ≡ old.all → new.sources ≡ old.sources → new.names ≡ old.names → old.work.items ≡ new.work.items ++ w ∷ [] → IsWalk all root [] old →
    (needs : List Need) × IsOwed all new.sources.files.items w needs × IsWalk all root needs new
walk_taken all root old new w a s k e walk =
    let t = owed_taken all old.sources.files.items new.work.items w walk.left (subst (λ v. AreOwed all old.sources.files.items v walk.left) e walk.owed) in (
      t.0,
      subst (λ x. IsOwed all x.files.items w t.0) (sym s) t.2,
      record {
        is = a ∙ walk.is;
        left = t.1;
        order = subst (λ x. Loads all [] (both root) x.files.items (t.0 ++ t.1)) (sym s) (subst (Loads all [] (both root) old.sources.files.items) t.4 walk.order);
        owed = subst (λ x. AreOwed all x.files.items new.work.items t.1) (sym s) t.3;
        names = subst (λ x. HasKeys x (names_of new.sources.files.items)) (sym k) (subst (λ x. HasKeys old.names (names_of x.files.items)) (sym s) walk.names);
        none = ap (λ x. x.refused) s ∙ walk.none;
      },
    )

-- nothing waits
pub walk_ended : (all : Bool) (root : List ℕ) (l : Loading) → l.work.items ≡ [] → IsWalk all root [] l → AreInOrder all root l.sources
walk_ended all root l e w = subst (Loads all [] (both root) l.sources.files.items) (subst (λ v. AreOwed all l.sources.files.items v w.left) e w.owed) w.order

pub walk_begun : (all : Bool) (root : List ℕ) (l : Loading) → l.all ≡ all → l.sources.files.items ≡ [] → l.sources.refused ≡ None → l.work.items ≡ [] → HasKeys l.names [] → IsWalk all root (both root) l
walk_begun all root l a e none none_waits keys = record {
  is = a;
  left = [];
  order = subst (λ fs. Loads all [] (both root) fs (both root)) (sym e) loads_none;
  owed = subst (λ v. AreOwed all l.sources.files.items v []) (sym none_waits) refl;
  names = subst (λ fs. HasKeys l.names (names_of fs)) (sym e) keys;
  none = none;
}
