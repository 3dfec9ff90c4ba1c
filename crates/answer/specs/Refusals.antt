-- Every refusal: its number and its words. All contracts take their refusals from here. Assumes nothing.
use Rattle.std.specs.Prelude.{ℕ, List, codes}
use Rattle.answer.specs.declared.Refusal.{Refusal}
use Rattle.answer.specs.declared.Refusal.TheVariants.{BadNumber, BadLength, Held, Full, NotHeld, ShortBuffer, ShortPacket, BadHeader, UnknownType, LengthMismatch, OutOfRange, ShortOutput, OtherStream, OtherAddressee, NotTaken, WrongStanding, Exhausted, HasLiveRow, NoLiveRow, BadPayload, WindowFull, NoneWanted, NotQueued}

abbrev pub refusal_number : Refusal → ℕ
refusal_number BadNumber = 1
refusal_number BadLength = 2
refusal_number Held = 3
refusal_number Full = 4
refusal_number NotHeld = 5
refusal_number ShortBuffer = 6
refusal_number ShortPacket = 7
refusal_number BadHeader = 8
refusal_number UnknownType = 9
refusal_number LengthMismatch = 10
refusal_number OutOfRange = 11
refusal_number ShortOutput = 12
refusal_number OtherStream = 13
refusal_number OtherAddressee = 14
refusal_number NotTaken = 15
refusal_number WrongStanding = 16
refusal_number Exhausted = 17
refusal_number HasLiveRow = 18
refusal_number NoLiveRow = 19
refusal_number BadPayload = 20
refusal_number WindowFull = 21
refusal_number NoneWanted = 22
refusal_number NotQueued = 23

abbrev pub refusal_text : Refusal → List ℕ
refusal_text BadNumber = codes "the number is 0 or 4294967295"
refusal_text BadLength = codes "a payload's length is not 1 to 512"
refusal_text Held = codes "the number is held already"
refusal_text Full = codes "the store is full"
refusal_text NotHeld = codes "the number is not held"
refusal_text ShortBuffer = codes "the buffer is shorter than the payload"
refusal_text ShortPacket = codes "the packet is shorter than 16 bytes"
refusal_text BadHeader = codes "the packet's header is wrong"
refusal_text UnknownType = codes "the packet's type is unknown"
refusal_text LengthMismatch = codes "the packet's length does not fit its body"
refusal_text OutOfRange = codes "a value is outside its range"
refusal_text ShortOutput = codes "the output buffer is too short"
refusal_text OtherStream = codes "the packet is of another tree or stream"
refusal_text OtherAddressee = codes "the packet is for another node"
refusal_text NotTaken = codes "this type is not taken from this writer"
refusal_text WrongStanding = codes "the node's standing does not allow it"
refusal_text Exhausted = codes "the last number, term or serial is used"
refusal_text HasLiveRow = codes "a child is still live"
refusal_text NoLiveRow = codes "no child is live"
refusal_text BadPayload = codes "an offered length is not 1 to 512"
refusal_text WindowFull = codes "256 records are not released yet"
refusal_text NoneWanted = codes "no number is wanted"
refusal_text NotQueued = codes "the wanted number is no longer queued"
