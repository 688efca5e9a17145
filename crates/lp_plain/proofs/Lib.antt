mod HeadPlaces
mod HeadsJoined
mod KeysMeet
mod SlotValues
mod FormFirsts
pub mod GoalForms
pub mod Indexes
mod Chains
mod OrderedLinks
mod Remains
pub mod Instances
pub mod ListReads
pub mod NewestTrees
pub mod RenewedTypes
mod Fed
mod Served
pub mod Scoped
pub mod Spines
pub mod Workings
pub mod WrittenTerms
pub mod WrittenTurns
pub mod Looks
pub mod OpenGoals
pub mod OpenNodes
pub mod Collects
pub mod Sightings
pub mod Measuring
pub mod FoundGoals
pub mod Tabled
pub mod Frames
pub mod Placed
pub mod Taken
pub mod Within
pub mod Led
pub mod Later
pub mod Mapped
pub mod Programs
pub mod ProgramKept
pub mod Starts
pub mod Growing
pub mod Opening
pub mod LaterIndex
pub mod Stacking
pub mod AppliedGoals
pub mod Restored
pub mod Assumed
pub mod Assuming
pub mod Trying
pub mod Tries
pub mod HeadPairs
pub mod OwnValues
pub mod Equating
pub mod Meeting
pub mod DeniedGoals
pub mod Closings
pub mod Become
pub mod Tried
pub mod HeadsUnder
pub mod TrialPairs
pub mod TrialParts
pub mod Trials
pub mod Grown
pub mod TakenApart
pub mod FirstGoals
pub mod FirstKinds
pub mod Alternatives
pub mod QuietMoves
pub mod Backwards
pub mod Marked
pub mod Counted
pub mod Marking
pub mod Relayed
mod Resumed
pub mod ProgramHeads
pub mod TryGrows
pub mod GoalsUnder
pub mod ProgramBodies
pub mod KnownGoals
pub mod ReadClauses
pub mod TryRead
pub mod TryScopes
pub mod HeadLooks
pub mod TableWritten
pub mod TrialsFound
pub mod WrittenGrows
pub mod Under
pub mod OpenedUnder
pub mod LooksUnder
pub mod AboveUnder
pub mod CutMoves
pub mod Running
pub mod ViewMoves
pub mod PartMoves
pub mod NoneBound
pub mod AtGoals
pub mod AtomFirst
pub mod BackMoves
pub mod FirstState
pub mod AnswerMoves
pub mod CallsUnder
pub mod CallBacks
pub mod Others
pub mod KnownUnder
pub mod HeadFills
pub mod ResumedUnder
pub mod TypedTries
pub mod TypedMoves
pub mod TypedCalls
pub mod TypedGoals
pub mod TryMoves
pub mod TaskMoves
pub mod EqualMoves
pub mod KnownForms
pub mod ShutForms
pub mod ClosedForms
pub mod SeenGoals
pub mod FormsUnder
pub mod FrontGoals
pub mod FormMoves
pub mod GoingOn
pub mod AtomViews
pub mod AtomMoves
pub mod AtomTurns
pub mod LookedOn
pub mod BesideForms
pub mod FormStands
pub mod StepTaken
pub mod TermTurns
pub mod Operations
pub mod NormalValues
pub mod Evaluations
pub mod ReadExpressions
pub mod TypedValues
pub mod TypedOperands
pub mod ValuesGiven
pub mod GoingBank
pub mod ArithmeticMoves
pub mod ArithmeticTurns
pub mod ArithmeticEnds
pub mod AtomAtHand
pub mod TryWritten
pub mod WrittenSearches
pub mod WrittenAssumed
pub mod WrittenParts
mod HeadsWritten
pub mod WrittenFirst
pub mod WrittenPut
mod Bounds
mod Inside
mod StepsLeft
mod Following
mod Treated
mod EventMoves
mod Between
pub mod Begun
mod AnswerTerms
mod CallLooks
mod CallTries
mod CallMoves
mod CallTerms
mod CallTurns
mod Denying
mod Elsewhere
mod HeldMoves
mod RefutedMoves
mod CallArm
mod CallEnds
mod CallForms
pub mod ProgramTypes
pub mod ProgramsWritten
pub mod KnownPrograms
pub mod TypedPrograms
mod ClosingTests
mod OpenTests
mod DenyBegins
mod DenyTurns
mod DenyFirst
mod DenyStands
pub mod Hearing
pub mod HeardParts
mod Beginning
mod AtomTells
mod ChoicesBack
mod Passing
