-- The names of an image that is linked from objects: those that the root exports, which are global, and behind them the hidden ones of its copies.
use Rattle.std.specs.Prelude.{◌≡◌, ℕ, ◌+◌, ◌≤◌, min, Bool, true, false, if◌then◌else◌, List, [], ◌∷◌, ◌++◌, map, slice_get, Option, None, Some}
use Rattle.std.specs.Str.{bytes_eq}
use Rattle.lp_calculus.specs.Typing.{Scheme}
use Rattle.lp_standard.specs.declared.fixity.Fixity.{Fixity}
use Rattle.lp_code.specs.declared.object.Object.{Object}
use Rattle.lp_code.specs.declared.object.ObjectKind.{ObjectKind}
use Rattle.lp_code.specs.declared.object.ObjectConstant.{ObjectConstant}
use Rattle.lp_code.specs.declared.image.Image.{Image}
use Rattle.lp_code.specs.declared.image.ImageKind.{ImageKind}
use Rattle.lp_code.specs.declared.image.ImageConstant.{ImageConstant}
use Rattle.lp_code.specs.Naming.{scheme_in}
use Rattle.lp_link.specs.Uses.{kind_names, constant_names}
use Rattle.lp_link.specs.Renumbering.{moved_scheme}
use Rattle.lp_link.specs.Linked.{Copy, Ends, Linked, first_ends, kinds_of, constants_of, map_of}

-- hidden numbers

-- how often a name stands in a list
abbrev pub times : List ℕ → List (List ℕ) → ℕ
times w [] = 0
times w (v ∷ vs) = (if bytes_eq w v then 1 else 0) + times w vs

-- a number that 16 bits hold; where objects have each name once, no number is above it (`hidden_numbers_fit`)
abbrev pub fitted : ℕ → ℕ
fitted n = min n 65535

-- hidden names, behind others, with what stands beside each: the k-th one of a name has the number k
abbrev pub numbered : {A : Type 0} → (before : List (List ℕ)) → List (List ℕ × A) → List (List ℕ × (ℕ × A))
numbered before [] = []
numbered before ((w, v) ∷ rows) = (w, (fitted (times w before + 1), v)) ∷ numbered (before ++ w ∷ []) rows

-- a global name has the number 0
abbrev pub as_global : {A : Type 0} → List ℕ × A → List ℕ × (ℕ × A)
as_global row = (row.0, (0, row.1))

-- objects

-- what stands beside the hidden names of an object, and beside those that it exports, in order
abbrev pub hidden_of : {A : Type 0} → List (List ℕ × Bool) → List A → List A
hidden_of [] vs = []
hidden_of (e ∷ es) [] = []
hidden_of ((name, false) ∷ es) (v ∷ vs) = v ∷ hidden_of es vs
hidden_of ((name, true) ∷ es) (v ∷ vs) = hidden_of es vs

abbrev pub exported_of : {A : Type 0} → List (List ℕ × Bool) → List A → List A
exported_of [] vs = []
exported_of (e ∷ es) [] = []
exported_of ((name, false) ∷ es) (v ∷ vs) = exported_of es vs
exported_of ((name, true) ∷ es) (v ∷ vs) = v ∷ exported_of es vs

-- each kind with its arity, and each constant with its fixity
abbrev pub kind_rows : Object → List (List ℕ × ℕ)
kind_rows o = map (λ (k : ObjectKind). (k.name.items, k.arity)) o.kinds.items

abbrev pub constant_rows : Object → List (List ℕ × Option (Fixity × ℕ))
constant_rows o = map (λ (c : ObjectConstant). (c.name.items, c.fixity)) o.constants.items

abbrev pub exported_kind_rows : Object → List (List ℕ × ℕ)
exported_kind_rows o = exported_of (kinds_of o) (kind_rows o)

abbrev pub exported_constant_rows : Object → List (List ℕ × Option (Fixity × ℕ))
exported_constant_rows o = exported_of (constants_of o) (constant_rows o)

abbrev pub hidden_kind_rows : Object → List (List ℕ × ℕ)
hidden_kind_rows o = hidden_of (kinds_of o) (kind_rows o)

abbrev pub hidden_constant_rows : Object → List (List ℕ × Option (Fixity × ℕ))
hidden_constant_rows o = hidden_of (constants_of o) (constant_rows o)

-- the types of an object's constants, and these in a copy: kinds have the numbers that they have there
abbrev pub schemes_of : Object → List Scheme
schemes_of o = map (λ (c : ObjectConstant). scheme_in o.bank c.type_vars c.scheme.0) o.constants.items

abbrev pub moved_schemes : Copy → List Scheme
moved_schemes c = map (moved_scheme (map_of 0 c)) (schemes_of c.object)

abbrev pub exported_types : Copy → List Scheme
exported_types c = exported_of (constants_of c.object) (moved_schemes c)

abbrev pub hidden_types : Copy → List Scheme
hidden_types c = hidden_of (constants_of c.object) (moved_schemes c)

-- what copies have, one copy behind the other
abbrev pub of_copies : {A : Type 0} → (Copy → List A) → List Copy → List A
of_copies f [] = []
of_copies f (c ∷ cs) = f c ++ of_copies f cs

-- an object has no two kinds, and no two constants, of one name
pub record HasEachOnce (o : Object) : Type 0 where
  pub kinds : (w : List ℕ) → times w (kind_names o.kinds.items) ≤ 1
  pub constants : (w : List ℕ) → times w (constant_names o.constants.items) ≤ 1

-- images

-- a kind of an image: its name, its hidden number and its arity; and a constant: its name, its hidden number and its fixity
abbrev pub kind_row : ImageKind → List ℕ × (ℕ × ℕ)
kind_row k = (k.name.items, (k.hidden, k.arity))

abbrev pub constant_row : ImageConstant → List ℕ × (ℕ × Option (Fixity × ℕ))
constant_row c = (c.name.items, (c.hidden, c.fixity))

-- An image has the names of these copies, of which the last one is the root's: first those that the root exports, in the root's order, then the hidden ones copy by copy, each in its object's order.
pub record HasNames (copies : List Copy) (i : Image) : Type 0 where
  pub below : List Copy
  pub root : Copy
  pub last : copies ≡ below ++ root ∷ []
  pub kinds : map kind_row i.kinds.items ≡ map as_global (exported_kind_rows root.object) ++ numbered [] (of_copies (λ c. hidden_kind_rows c.object) copies)
  pub constants : map constant_row i.constants.items ≡ map as_global (exported_constant_rows root.object) ++ numbered [] (of_copies (λ c. hidden_constant_rows c.object) copies)
  pub types : map (λ (c : ImageConstant). scheme_in i.bank c.type_vars c.scheme.0) i.constants.items ≡ exported_types root ++ of_copies hidden_types copies

-- the image of a root has the names of its copies
abbrev pub IsNamed : List Object → (root : ℕ) → Image → Type 0
IsNamed os root i = (o : Object) (end : Ends) (copies : List Copy) → slice_get os root ≡ Some o → Linked os None (root ∷ []) (first_ends o) copies end → HasNames copies i
