-- Replies to queries, as a session sees them.
use Rattle.std.specs.Prelude.{◌≡◌, ◌<◌, ℕ, List, [], ◌++◌, length, Option, Some, IfSome, ◌⊎◌}
use Rattle.lp_base.specs.Written.{Appends, AppendsPrefix}
use Rattle.lp_session.specs.declared.replies.Reply.{Reply}
use Rattle.lp_session.specs.declared.replies.Reply.TheVariants.{Written, NotThere}
use Rattle.lp_session.specs.declared.replies.ReplyRefusal.{ReplyRefusal}
use Rattle.lp_session.specs.declared.replies.ReplyRefusal.TheVariants.{Write, Memory}
use Rattle.lp_session.specs.Lines.{AreWholeLines}

-- what replies to query texts may be
pub record Meaning : Type 1 where
  -- a query text, the names that are shown, the bytes of a reply, and the number of its answers
  pub allowed : List ℕ → Option (List (List ℕ)) → List ℕ → ℕ → Type 0
  -- a query text, and a reply that says why it is refused
  pub refuses : List ℕ → List ℕ → Type 0
  -- a query text, names to be shown, and the number of one of them that is no variable of the query
  pub lacking : List ℕ → List (List ℕ) → ℕ → Type 0

-- of the names to be shown none lacks, unless the query is refused, which goes first
abbrev pub NoneLacks : Meaning → List ℕ → (reply : List ℕ) → List (List ℕ) → Type 0
NoneLacks m query reply names = m.refuses query reply ⊎ ((i : ℕ) → m.lacking query names i → ⊥)

-- a whole reply to a query
pub record IsGiven (m : Meaning) (query : List ℕ) (shown : Option (List (List ℕ))) (reply : List ℕ) (answers : ℕ) : Type 0 where
  pub allowed_reply : m.allowed query shown reply answers
  pub none_lacks : IfSome shown (NoneLacks m query reply)
  pub whole : AreWholeLines reply

-- one was appended
pub record HasReplied (m : Meaning) (query : List ℕ) (shown : Option (List (List ℕ))) (old new : Option (List ℕ)) (answers : ℕ) : Type 0 where
  pub reply : List ℕ
  pub given : IsGiven m query shown reply answers
  pub appended : Appends old new reply

-- nothing was appended, and this name lacks
pub record HasMissed (m : Meaning) (query : List ℕ) (shown : Option (List (List ℕ))) (old new : Option (List ℕ)) (number : ℕ) : Type 0 where
  pub names : List (List ℕ)
  pub shown_names : shown ≡ Some names
  pub there : number < length names
  pub lacks : m.lacking query names number
  pub appended : Appends old new []

abbrev pub IsReplied : Meaning → List ℕ → Option (List (List ℕ)) → (old new : Option (List ℕ)) → Reply → Type 0
IsReplied m query shown old new (Written n) = HasReplied m query shown old new n
IsReplied m query shown old new (NotThere i) = HasMissed m query shown old new i

-- whole lines that begin a reply; nothing may come of no reply
abbrev pub Begins : Meaning → List ℕ → Option (List (List ℕ)) → List ℕ → Type 0
Begins m query shown begun = (begun ≡ []) ⊎ ((rest : List ℕ) × ((n : ℕ) × IsGiven m query shown (begun ++ rest) n))

-- a reply that broke off: behind a failed piece a prefix of one, for want of memory whole lines of one
abbrev pub IsBroken : Meaning → List ℕ → Option (List (List ℕ)) → (old new : Option (List ℕ)) → ReplyRefusal → Type 0
IsBroken m query shown old new Write = (reply : List ℕ) × ((n : ℕ) × (IsGiven m query shown reply n × AppendsPrefix old new reply))
IsBroken m query shown old new Memory = (begun : List ℕ) × (AreWholeLines begun × (Begins m query shown begun × Appends old new begun))

-- the same replies are allowed, the same ones say why a query is refused, and the same names lack
pub record Same (m m' : Meaning) : Type 0 where
  pub later : (query : List ℕ) (shown : Option (List (List ℕ))) (reply : List ℕ) (n : ℕ) → m.allowed query shown reply n → m'.allowed query shown reply n
  pub earlier : (query : List ℕ) (shown : Option (List (List ℕ))) (reply : List ℕ) (n : ℕ) → m'.allowed query shown reply n → m.allowed query shown reply n
  pub refuses_later : (query reply : List ℕ) → m.refuses query reply → m'.refuses query reply
  pub refuses_earlier : (query reply : List ℕ) → m'.refuses query reply → m.refuses query reply
  pub lacks_later : (query : List ℕ) (names : List (List ℕ)) (i : ℕ) → m.lacking query names i → m'.lacking query names i
  pub lacks_earlier : (query : List ℕ) (names : List (List ℕ)) (i : ℕ) → m'.lacking query names i → m.lacking query names i
