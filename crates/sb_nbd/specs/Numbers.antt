-- The numbers of the NBD protocol (its document, "Values"), and the limits of this server.
use Rattle.std.specs.Prelude.{ℕ}

-- the greatest flags of a client: both bits, fixed newstyle and no zeroes
abbrev pub max_flags : ℕ
max_flags = 3

-- what an option begins with, "IHAVEOPT"
abbrev pub option_magic : ℕ
option_magic = 5280542401877725268

-- the options
abbrev pub export_name : ℕ
export_name = 1

abbrev pub abort : ℕ
abort = 2

abbrev pub list : ℕ
list = 3

abbrev pub starttls : ℕ
starttls = 5

abbrev pub info : ℕ
info = 6

abbrev pub go : ℕ
go = 7

-- what a reply to an option begins with, 00 03 e8 89 04 55 65 a9 in hexadecimal digits
abbrev pub option_reply_magic : ℕ
option_reply_magic = 1100100111001001

-- the kinds of replies to options: ACK, SERVER and INFO, and the errors UNSUP, POLICY, INVALID and UNKNOWN, which are
-- 1, 2, 3 and 6 above 2^31
abbrev pub ack : ℕ
ack = 1

abbrev pub server : ℕ
server = 2

abbrev pub info_reply : ℕ
info_reply = 3

abbrev pub unsup : ℕ
unsup = 2147483649

abbrev pub policy : ℕ
policy = 2147483650

abbrev pub invalid : ℕ
invalid = 2147483651

abbrev pub unknown : ℕ
unknown = 2147483654

-- the kinds of information: the export, and its block sizes
abbrev pub export_kind : ℕ
export_kind = 0

abbrev pub block_size_kind : ℕ
block_size_kind = 3

-- the most bytes that an option carries, a limit of this server
abbrev pub max_option : ℕ
max_option = 65536

-- what a request begins with, 25 60 95 13 in hexadecimal digits
abbrev pub request_magic : ℕ
request_magic = 627086611

-- what a reply begins with, 67 44 66 98 in hexadecimal digits
abbrev pub reply_magic : ℕ
reply_magic = 1732535960

-- the types of requests
abbrev pub read_type : ℕ
read_type = 0

abbrev pub write_type : ℕ
write_type = 1

abbrev pub disc_type : ℕ
disc_type = 2

abbrev pub flush_type : ℕ
flush_type = 3

abbrev pub trim_type : ℕ
trim_type = 4

abbrev pub write_zeroes_type : ℕ
write_zeroes_type = 6

-- the flag of a request that wants its writes kept before the reply, FUA
abbrev pub fua : ℕ
fua = 1

-- the flag of a WRITE_ZEROES that wants no hole where it writes, NO_HOLE
abbrev pub no_hole : ℕ
no_hole = 2

-- the most bytes that a WRITE carries and a READ asks for, a limit of this server: 32 MiB
abbrev pub max_payload : ℕ
max_payload = 33554432

-- the errors EPERM, EIO, ENOMEM, EINVAL and ENOSPC
abbrev pub eperm : ℕ
eperm = 1

abbrev pub eio : ℕ
eio = 5

abbrev pub enomem : ℕ
enomem = 12

abbrev pub einval : ℕ
einval = 22

abbrev pub enospc : ℕ
enospc = 28
