-- What a reply to a query of a session may be.
use Rattle.std.specs.Global.{Global}
use Rattle.std.specs.Prelude.{◌≡◌, ℕ, List, [], ◌++◌, codes, Option, Some, None, Result, Ok, Err, Vec}
use Rattle.lp_base.specs.Written.{Appends, AppendsPrefix}
use Rattle.lp_base.specs.declared.status.Status.{Status}
use Rattle.lp_model.specs.Shown.{Entry}
use Rattle.lp_model.specs.declared.ending.Ending.{Ending}
use Rattle.lp_answers.specs.Texts.{AreAnswers, last_text}
use Rattle.lp_lines.specs.Placed.{IsOfText, IfSource}
use Rattle.lp_lines.specs.Refusals.{IsTextRefusal}
use Rattle.lp_lines.specs.declared.refusal.Refusal.TheVariants.{Line}
use Rattle.lp_query.specs.declared.fault.AskRefusal.{AskRefusal}
use Rattle.lp_query.specs.declared.fault.AskRefusal.TheVariants as ask
use Rattle.lp_query.specs.Faults.{IsFirstMissing}
use Rattle.lp_ask.specs.declared.answering.Broken.{Broken}
use Rattle.lp_ask.specs.declared.answering.Broken.TheVariants as kind
use Rattle.lp_query.specs.Outcomes.{entries_in, reader, ShowsVariables}
use Rattle.lp_query.specs.Variables.{Reader, AreVariables}
use Rattle.lp_session.specs.declared.replies.Reply.{Reply}
use Rattle.lp_session.specs.declared.replies.Reply.TheVariants.{Written, NotThere}
use Rattle.lp_session.specs.declared.replies.ReplyRefusal.{ReplyRefusal}
use Rattle.lp_session.specs.declared.replies.ReplyRefusal.TheVariants.{Write, Memory}
use Rattle.lp_session.specs.Replies.{Meaning, IsReplied, IsBroken}
use Rattle.lp_ask.specs.declared.answering.Answering.{Answering}

-- the variables that are shown: these names, each of which is that of a variable of the query, where some are named, else all its variables
abbrev pub Shows : Reader → (query : List ℕ) → Option (List (List ℕ)) → List (List ℕ) → Type 0
Shows r query None names = AreVariables r query names
Shows r query (Some shown) names = (names ≡ shown) × ShowsVariables r query shown

-- the line that says why a text is refused
pub record IsRefusalOf (query reply : List ℕ) : Type 0 where
  pub said : Status
  pub line : Vec ℕ Global
  pub refusal : IsTextRefusal (Line said line)
  pub placed : IfSource (IsOfText (codes "query") query) (Line said line)
  pub is : reply ≡ line.items

-- the line of a refusal of the query's text, or its answers and how their search ended
pub data IsReplyTo (es : List Entry) (r : Reader) (query : List ℕ) (shown : Option (List (List ℕ))) (reply : List ℕ) (answers : ℕ) : Type 0 where
  refused : IsRefusalOf query reply → answers ≡ 0 → IsReplyTo es r query shown reply answers
  answered : (names : List (List ℕ)) (text : List ℕ) (e : Ending) → Shows r query shown names → AreAnswers es names answers text → reply ≡ text ++ last_text e [] → IsReplyTo es r query shown reply answers

-- of the names to be shown this is the first that is no variable of the query
abbrev pub IsLacking : Reader → (query : List ℕ) → List (List ℕ) → ℕ → Type 0
IsLacking r query shown number = (names : List (List ℕ)) × (AreVariables r query names × IsFirstMissing names shown number)

abbrev pub meaning_with : List Entry → Reader → Meaning
meaning_with es r = record { allowed = λ query shown reply answers. IsReplyTo es r query shown reply answers; refuses = λ query reply. IsRefusalOf query reply; lacking = λ query shown number. IsLacking r query shown number }

abbrev pub meaning_of : Answering → Meaning
meaning_of a = meaning_with (entries_in a.asker) (reader a.asker)

-- the line of a refusal was written, or a prefix of it
abbrev pub PutRefused : List ℕ → (old new : Option (List ℕ)) → Result Reply ReplyRefusal → Type 0
PutRefused query old new (Ok (Written n)) = (n ≡ 0) × ((said : Status) × ((line : Vec ℕ Global) × (IsTextRefusal (Line said line) × (IfSource (IsOfText (codes "query") query) (Line said line) × Appends old new line.items))))
PutRefused query old new (Ok (NotThere i)) = ⊥
PutRefused query old new (Err Write) = (said : Status) × ((line : Vec ℕ Global) × (IsTextRefusal (Line said line) × (IfSource (IsOfText (codes "query") query) (Line said line) × AppendsPrefix old new line.items)))
PutRefused query old new (Err Memory) = new ≡ old

-- a reply, or how it broke off
abbrev pub Comes : Meaning → List ℕ → Option (List (List ℕ)) → (old new : Option (List ℕ)) → Result Reply ReplyRefusal → Type 0
Comes m query shown old new (Ok r) = IsReplied m query shown old new r
Comes m query shown old new (Err e) = IsBroken m query shown old new e

-- a line was written, or a prefix of it
abbrev pub PutsLine : List ℕ → (old new : Option (List ℕ)) → Result Reply ReplyRefusal → Type 0
PutsLine line old new (Ok (Written n)) = (n ≡ 0) × Appends old new line
PutsLine line old new (Ok (NotThere i)) = ⊥
PutsLine line old new (Err Write) = AppendsPrefix old new line
PutsLine line old new (Err Memory) = ⊥

-- a refusal for what the query's text says
abbrev pub IsText : AskRefusal → Type 0
IsText ask.Write = ⊥
IsText ask.Memory = ⊥
IsText (ask.NotThere n) = ⊥
IsText e = Unit {0}

-- what a refusal is for a session
abbrev pub IsKind : AskRefusal → Broken → Type 0
IsKind e kind.Write = e ≡ ask.Write
IsKind e kind.Memory = e ≡ ask.Memory
IsKind e (kind.Missing n) = e ≡ ask.NotThere n
IsKind e kind.Text = IsText e
