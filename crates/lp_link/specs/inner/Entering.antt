-- How copies are entered and left, with the numbers of their hidden names.
use Rattle.std.specs.Prelude.{◌≡◌, ℕ, ◌+◌, ◌<◌, ◌≤◌, List, [], ◌∷◌, ◌++◌, length, reverse, drop, set, get_or, slice_get, Option, None, Some}
use Rattle.lp_lemmas.specs.Each.{EachOf}
use Rattle.lp_code.specs.declared.object.Object.{Object}
use Rattle.lp_link.specs.declared.names.Open.{Open}
use Rattle.lp_link.specs.declared.names.Firsts.{Firsts}
use Rattle.lp_link.specs.declared.places.Member.{Member}
use Rattle.lp_link.specs.declared.linking.Ends.{Ends as CodeEnds}
use Rattle.lp_link.specs.Uses.{uses_of}
use Rattle.lp_link.specs.Linked.{Copy, Ends, copy_of, behind, first_ends}

-- numbers of 32 bits, each with one above it
pub record IsSmall (c : Copy) : Type 0 where
  pub kinds : EachOf (λ n. n < 4294967295) c.kinds
  pub constants : EachOf (λ n. n < 4294967295) c.constants

-- behind a copy of a module, by the counts of the hidden names of each module
abbrev pub past : (kinds constants : List ℕ) → (m : ℕ) → Ends → Ends
past ks cs m e = record { kinds = e.kinds + get_or ks m 0; constants = e.constants + get_or cs m 0 }

-- where the numbers of each copy begin, in the order in which copies are entered: a copy, then those below it
pub data AreFirst (uses : List (List ℕ)) (kinds constants : List ℕ) : (entries : List ℕ) → (begin : Ends) → List Ends → (end : Ends) → Type 0 where
  no_first : (e : Ends) → AreFirst uses kinds constants [] e [] e
  one_first : (m : ℕ) (rest : List ℕ) (begin mid end : Ends) (inner more all : List Ends) → AreFirst uses kinds constants (get_or uses m []) begin inner mid
      → AreFirst uses kinds constants rest (past kinds constants m mid) more end → all ≡ mid ∷ (inner ++ more) → AreFirst uses kinds constants (m ∷ rest) begin all end

-- What the first numbers so far come to: each open copy, the innermost first, has a place among them, where its own are put when it is left
abbrev pub AreFilled : (uses : List (List ℕ)) → (kinds constants : List ℕ) → (now : Ends) → (frames : List (ℕ × ℕ)) → (holes : List ℕ) → (firsts all : List Ends) → (end : Ends) → Type 0
AreFilled uses ks cs now [] [] firsts all end = (firsts ≡ all) × (now ≡ end)
AreFilled uses ks cs now [] (h ∷ hs) firsts all end = ⊥
AreFilled uses ks cs now (f ∷ fs) [] firsts all end = ⊥
AreFilled uses ks cs now (f ∷ fs) (h ∷ hs) firsts all end =
    (inner : List Ends) × (mid : Ends) × (h < length firsts) × AreFirst uses ks cs (drop f.1 (get_or uses f.0 [])) now inner mid
    × AreFilled uses ks cs (past ks cs f.0 mid) fs hs (set (firsts ++ inner) h mid) all end

-- the copies of entries below one, with the first numbers of each
pub data Entering (os : List Object) : (above : Option Copy) → (entries : List ℕ) → (begin : Ends) → List Ends → List Copy → (end : Ends) → Type 0 where
  none_entered : (above : Option Copy) (e : Ends) → Entering os above [] e [] [] e
  one_entered : (above : Option Copy) (m : ℕ) (rest : List ℕ) (o : Object) (begin mid end : Ends) (inner more firsts : List Ends) (below others all : List Copy) → slice_get os m ≡ Some o
      → IsSmall (copy_of above o mid) → Entering os (Some (copy_of above o mid)) (get_or (uses_of os) m []) begin inner below mid
      → Entering os above rest (behind o mid) more others end → firsts ≡ mid ∷ (inner ++ more) → all ≡ below ++ copy_of above o mid ∷ others → Entering os above (m ∷ rest) begin firsts all end

-- a root with the copies below it
pub record IsPlan (os : List Object) (root : ℕ) (firsts : List Ends) (c : Copy) (below : List Copy) : Type 0 where
  pub object : Object
  pub there : slice_get os root ≡ Some object
  pub mid : Ends
  pub is : c ≡ copy_of None object mid
  pub small : IsSmall c
  pub inner : List Ends
  pub first : firsts ≡ mid ∷ inner
  pub entering : Entering os (Some c) (get_or (uses_of os) root []) (first_ends object) inner below mid

-- what comes of the open copies, the innermost first, with the first numbers that are left, behind the copies that were left
abbrev pub AreToCome : List Object → (now : Ends) → (frames : List (ℕ × ℕ)) → (inside : List Copy) → (firsts : List Ends) → (done all : List Copy) → Type 0
AreToCome os now [] [] firsts done all = done ≡ all
AreToCome os now [] (c ∷ cs) firsts done all = ⊥
AreToCome os now (f ∷ fs) [] firsts done all = ⊥
AreToCome os now (f ∷ fs) (c ∷ cs) firsts done all =
    (inner : List Ends) × (more : List Ends) × (below : List Copy) × (mid : Ends) × (firsts ≡ inner ++ more) × Entering os (Some c) (drop f.1 (get_or (uses_of os) f.0 [])) now inner below mid
    × AreToCome os (behind c.object mid) fs cs more (done ++ (below ++ c ∷ [])) all

-- an open copy, as the copy that it is
abbrev pub open_copy : Open → Copy
open_copy o = record { object = o.member.now.object.now; kinds = o.names.kinds.items; constants = o.names.constants.items }

abbrev pub copy_inside : List Open → Option Copy
copy_inside [] = None
copy_inside (o ∷ os) = Some (open_copy o)

abbrev pub ends_of : Firsts → Ends
ends_of f = record { kinds = f.kind; constants = f.constant }

-- the numbers are below the end of an image's
abbrev pub AreFew : Ends → Type 0
AreFew e = (e.kinds ≤ 1048576) × (e.constants ≤ 1048576)

abbrev pub begun : CodeEnds → Ends
begun e = record { kinds = e.kind; constants = e.constant }

-- there are no more records than an object may have
abbrev pub IsShort : Open → Type 0
IsShort o = length o.member.now.object.now.code.records.items ≤ 65535

-- a copy of a module was opened inside of others, the innermost last; its numbers are those of the definition where they are small
pub record IsEntered (old new : List Open) (m : Member) (firsts : Firsts) : Type 0 where
  pub opened : Open
  pub inside : reverse new ≡ opened ∷ reverse old
  pub of : opened.member.now ≡ m
  pub numbers : IsSmall (copy_of (copy_inside (reverse old)) m.object.now (ends_of firsts)) → open_copy opened ≡ copy_of (copy_inside (reverse old)) m.object.now (ends_of firsts)
