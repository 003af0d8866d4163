-- For the contracts of kinds.rt: what is looked at in the records of some kinds only (docs/RECORD.md): what a kind does
-- not have is 0, what it has is within its bounds.
use Rattle.std.specs.Prelude.{ℕ, ◌%◌, ◌^◌, Bool, ◌&&◌, ◌||◌, not, List, eqb, leb}
use Rattle.bits.specs.Choice.{pick}
use Rattle.bits.specs.Field.{field}
use Rattle.bits.specs.Word.{byte, word}
use Rattle.tlp_writable.specs.Given.{over, outside}
use Rattle.tlp_record.specs.Places.{attributes_place, route_place, message_code_place, route_value_place, message_bytes_place, length_place, byte_count_place, first_enables_place, last_enables_place, extended_register_place, register_place, status_place, byte_count_modified_place, lower_address_place}

abbrev pub all_zero : ℕ → ℕ → ℕ → ℕ → Bool
all_zero a b c d = eqb a 0 && (eqb b 0 && (eqb c 0 && eqb d 0))

-- length and enables of a request
abbrev pub request_over : ℕ → ℕ → ℕ → Bool
request_over n first last = outside 1024 n || (over 4 first || over 4 last)

abbrev pub config_over : ℕ → ℕ → Bool → Bool
config_over extended register request = over 4 extended || (over 6 register || request)

abbrev pub completion_over : ℕ → ℕ → ℕ → Bool
completion_over status count lower = over 3 status || (outside 4096 count || over 7 lower)

-- length in doublewords, 1 to 1024: all but Msg and Cpl
abbrev pub length_kept : Bool → ℕ → Bool
length_kept has n = pick has (not (outside 1024 n)) (eqb n 0)

-- a route by address, of w bits
abbrev pub not_address : ℕ → ℕ → ℕ → Bool
not_address w route a = not (eqb route 0) || (over w a || not (eqb (a % 4) 0))

-- a message goes by what its bytes 8 to 15 hold
abbrev pub not_message : ℕ → ℕ → ℕ → Bool
not_message route value body = pick (eqb route 0) (not (eqb value body)) (eqb route 1 && not (eqb (value % 2 ^ 16) (field body 48 16)))

-- what a kind does not have: nothing of a message or a completion, and no register in a request ..
abbrev pub request_zero : List ℕ → Bool
request_zero fields =
    all_zero (byte fields message_code_place) (word 8 fields message_bytes_place) (word 4 fields byte_count_place) (word 8 fields extended_register_place)

-- .. nothing after the register in a configuration request ..
abbrev pub config_zero : List ℕ → Bool
config_zero fields =
    all_zero (byte fields message_code_place) (word 8 fields message_bytes_place) (word 4 fields byte_count_place) (word 8 fields extended_register_place % 2 ^ 48)

-- .. no byte count, enables or registers in a message ..
abbrev pub message_zero : List ℕ → Bool
message_zero fields =
    all_zero (word 4 fields byte_count_place) (word 8 fields extended_register_place) (byte fields first_enables_place) (byte fields last_enables_place)

-- .. no code, message bytes or registers in a completion, and nothing after its lower address
abbrev pub completion_zero : List ℕ → Bool
completion_zero fields =
    all_zero (byte fields message_code_place) (word 8 fields message_bytes_place) (word 2 fields extended_register_place) (word 8 fields extended_register_place % 2 ^ 24)

-- length and enables of a record's request
abbrev pub request_over_in : List ℕ → Bool
request_over_in fields = request_over (word 4 fields length_place) (byte fields first_enables_place) (byte fields last_enables_place)

unfoldable pub memory_fits : List ℕ → Bool
memory_fits fields =
    request_zero fields && (not (request_over_in fields) && not (not_address 64 (byte fields route_place) (word 8 fields route_value_place)))

-- Attr[2] is 0 for IORd to CfgWr1
unfoldable pub io_fits : List ℕ → Bool
io_fits fields =
    request_zero fields
    && (not (request_over_in fields)
    && (eqb (field (byte fields attributes_place) 2 1) 0 && not (not_address 32 (byte fields route_place) (word 8 fields route_value_place))))

unfoldable pub config_fits : List ℕ → Bool
config_fits fields =
    config_zero fields
    && (not (config_over (byte fields extended_register_place) (byte fields register_place) (request_over_in fields))
    && (eqb (field (byte fields attributes_place) 2 1) 0 && eqb (byte fields route_place) 1))

unfoldable pub message_fits : Bool → List ℕ → Bool
message_fits has fields =
    length_kept has (word 4 fields length_place)
    && (message_zero fields && not (not_message (byte fields route_place) (word 8 fields route_value_place) (word 8 fields message_bytes_place)))

unfoldable pub completion_fits : Bool → List ℕ → Bool
completion_fits has fields =
    length_kept has (word 4 fields length_place)
    && (completion_zero fields
    && (leb (byte fields byte_count_modified_place) 1
    && (eqb (word 2 fields first_enables_place) 0
    && (not (completion_over (byte fields status_place) (word 4 fields byte_count_place) (byte fields lower_address_place)) && eqb (byte fields route_place) 1))))
