-- Lines that are read byte by byte.
use Rattle.std.proofs.Common.{false, Option, Err, ℕ, ◌≡◌, ◌∙◌, List, [], ◌∷◌, ◌++◌, fold, ap, sym, subst, refl}
use Rattle.sb_http.specs.declared.line.Line.{Line}
use Rattle.sb_http.specs.declared.line.Step.{Step}
use Rattle.sb_http.specs.declared.line.Step.TheVariants.{More}
use Rattle.sb_http.specs.declared.fault.HttpFault.{HttpFault}
use Rattle.sb_http.specs.declared.fault.HttpFault.TheVariants.{WireFault, HeadCut, HeadTooLong, BadHead, TooManyHeaders}
use Rattle.sb_http.specs.declared.fault.HttpFault.TheVariants.{BadLength, BodyCut, BadChunk, TooLong, Memory}
use Rattle.sb_world.specs.declared.wire.Connection.{Connection}
use Rattle.sb_http.specs.Lines.{IsOpen, after, read_from, stepped, ReadsLine}
use Rattle.sb_http.specs.Takings.{Takes, IsOutside}

fold_snoc : (step : Step) (bytes : List ℕ) (byte : ℕ)
    → fold stepped step (bytes ++ byte ∷ []) ≡ stepped (fold stepped step bytes) byte
fold_snoc step [] byte = refl
fold_snoc step (b ∷ bytes) byte = fold_snoc (stepped step b) bytes byte

-- one more byte of an open line
pub read_more : (start : Line) (bytes : List ℕ) (line : Line) (byte : ℕ) → read_from start bytes ≡ More line
    → read_from start (bytes ++ byte ∷ []) ≡ after line byte
read_more start bytes line byte so_far = fold_snoc (More start) bytes byte ∙ ap (λ step. stepped step byte) so_far

pub is_open : (step : Step) (line : Line) → step ≡ More line → IsOpen step
is_open step line e = subst IsOpen (sym e) tt

-- a fault from outside ends the reading
pub outside_line : (before now : Option (List Connection)) (ahead left : List ℕ) (line : Line) (got : ℕ)
    (fault : HttpFault)
    → IsOutside fault → (bytes : List ℕ) → Takes before now ahead left bytes false
    → ReadsLine before now ahead left line got (Err fault)
outside_line before now ahead left line got WireFault outside bytes takes = (tt, bytes, takes)
outside_line before now ahead left line got (HeadCut count) outside bytes takes = absurd outside
outside_line before now ahead left line got HeadTooLong outside bytes takes = absurd outside
outside_line before now ahead left line got BadHead outside bytes takes = absurd outside
outside_line before now ahead left line got TooManyHeaders outside bytes takes = absurd outside
outside_line before now ahead left line got (BadLength text) outside bytes takes = absurd outside
outside_line before now ahead left line got (BodyCut want count) outside bytes takes = absurd outside
outside_line before now ahead left line got (BadChunk count) outside bytes takes = absurd outside
outside_line before now ahead left line got (TooLong limit) outside bytes takes = absurd outside
outside_line before now ahead left line got Memory outside bytes takes = (tt, bytes, takes)
