-- Where the fields of a record start, as record.txt lists them, and its size. A reader must believe all of these;
-- src/places.rt has the same numbers.
use Rattle.std.specs.Prelude.{ℕ}

abbrev pub record_size : ℕ
record_size = 48

abbrev pub kind_place : ℕ
kind_place = 0

abbrev pub traffic_class_place : ℕ
traffic_class_place = 1

abbrev pub attributes_place : ℕ
attributes_place = 2

abbrev pub poisoned_place : ℕ
poisoned_place = 3

abbrev pub digest_present_place : ℕ
digest_present_place = 4

abbrev pub route_place : ℕ
route_place = 5

abbrev pub tag_place : ℕ
tag_place = 6

abbrev pub message_code_place : ℕ
message_code_place = 7

abbrev pub route_value_place : ℕ
route_value_place = 8

-- an ID, in the low bytes of the route's value
abbrev pub route_id_place : ℕ
route_id_place = 14

abbrev pub message_bytes_place : ℕ
message_bytes_place = 16

abbrev pub digest_place : ℕ
digest_place = 24

abbrev pub length_place : ℕ
length_place = 28

abbrev pub byte_count_place : ℕ
byte_count_place = 32

abbrev pub source_id_place : ℕ
source_id_place = 36

abbrev pub first_enables_place : ℕ
first_enables_place = 38

abbrev pub last_enables_place : ℕ
last_enables_place = 39

abbrev pub extended_register_place : ℕ
extended_register_place = 40

abbrev pub register_place : ℕ
register_place = 41

abbrev pub status_place : ℕ
status_place = 42

abbrev pub byte_count_modified_place : ℕ
byte_count_modified_place = 43

abbrev pub lower_address_place : ℕ
lower_address_place = 44
