-- How options are answered (NBD protocol, "Option types").
use Rattle.std.specs.Prelude.{ℕ, ◌≡◌, ◌≢◌, ◌<◌, ◌⊎◌, nat_eq, Bool, true, false, List, [], ◌∷◌, ◌++◌, Ok, Err}
use Rattle.sb_nbd.specs.declared.export.Export.{Export}
use Rattle.sb_nbd.specs.declared.info.Details.{Details}
use Rattle.sb_nbd.specs.declared.info.Details.TheVariants as details
use Rattle.sb_nbd.specs.declared.info.OptionRefusal.{OptionRefusal}
use Rattle.sb_nbd.specs.declared.info.OptionRefusal.TheVariants.{Unsupported, Policy, Invalid, Unknown}
use Rattle.sb_nbd.specs.declared.answer.OptionAnswer.{OptionAnswer}
use Rattle.sb_nbd.specs.declared.answer.OptionAnswer.TheVariants as answer
use Rattle.sb_nbd.specs.Numbers.{export_name, abort, list, starttls, info, go}
use Rattle.sb_nbd.specs.Numbers.{ack, server, info_reply, unsup, policy, invalid, unknown}
use Rattle.sb_nbd.specs.Options as options
use Rattle.sb_nbd.specs.Greetings.{export_bytes, wants_zeroes}
use Rattle.sb_nbd.specs.InfoRequests.{ReadsInfo}
use Rattle.sb_nbd.specs.OptionReplies.{option_reply_bytes, export_info, block_size_info}

-- INFO or GO
abbrev pub IsInfo : ℕ → Type 0
IsInfo option = (option ≡ info) ⊎ (option ≡ go)

-- none of the options that have an answer of their own
pub record IsOther (option : ℕ) : Type 0 where
  pub not_export_name : option ≢ export_name
  pub not_abort : option ≢ abort
  pub not_list : option ≢ list
  pub not_starttls : option ≢ starttls
  pub not_info : option ≢ info
  pub not_go : option ≢ go

-- the options that are refused so
abbrev pub IsRefused : options.Option → OptionRefusal → Type 0
IsRefused o Unsupported = IsOther o.asked.option
IsRefused o Policy = o.asked.option ≡ starttls
IsRefused o Invalid = ((o.asked.option ≡ list) × (0 < o.asked.length))
    ⊎ (IsInfo o.asked.option × ReadsInfo o.payload (Err Invalid))
IsRefused o Unknown = IsInfo o.asked.option × ReadsInfo o.payload (Err Unknown)

-- the options that are answered so
abbrev pub HasAnswer : options.Option → OptionAnswer → Type 0
HasAnswer o answer.Export = (o.asked.option ≡ export_name) × (o.asked.length ≡ 0)
HasAnswer o answer.NoSuchExport = (o.asked.option ≡ export_name) × (0 < o.asked.length)
HasAnswer o answer.Abort = o.asked.option ≡ abort
HasAnswer o answer.List = (o.asked.option ≡ list) × (o.asked.length ≡ 0)
HasAnswer o (answer.Details details) = IsInfo o.asked.option × ReadsInfo o.payload (Ok details)
HasAnswer o (answer.Refused refusal) = IsRefused o refusal

-- the kind of a reply that refuses
abbrev pub kind_of : OptionRefusal → ℕ
kind_of Unsupported = unsup
kind_of Policy = policy
kind_of Invalid = invalid
kind_of Unknown = unknown

-- a reply that has the block sizes, where they are wanted
abbrev pub block_size_bytes : Export → ℕ → Details → List ℕ
block_size_bytes export option details.Export = []
block_size_bytes export option details.ExportAndBlockSize =
    option_reply_bytes option info_reply (block_size_info export.block_size)

-- the bytes of an answer to a client with these flags
abbrev pub answer_bytes : Export → ℕ → ℕ → OptionAnswer → List ℕ
answer_bytes export flags option answer.Export = export_bytes export.size export.flags (wants_zeroes flags)
answer_bytes export flags option answer.NoSuchExport = []
answer_bytes export flags option answer.Abort = option_reply_bytes option ack []
answer_bytes export flags option answer.List =
    option_reply_bytes option server (0 ∷ 0 ∷ 0 ∷ 0 ∷ []) ++ option_reply_bytes option ack []
answer_bytes export flags option (answer.Details details) =
    option_reply_bytes option info_reply (export_info export.size export.flags)
    ++ (block_size_bytes export option details ++ option_reply_bytes option ack [])
answer_bytes export flags option (answer.Refused refusal) = option_reply_bytes option (kind_of refusal) []

-- transmission begins behind this answer: behind the export, and behind what GO is told
abbrev pub begins_transmission : ℕ → OptionAnswer → Bool
begins_transmission option answer.Export = true
begins_transmission option (answer.Details details) = nat_eq option go
begins_transmission option other = false
