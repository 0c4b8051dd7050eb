-- What a text reads as is a member of the type.
pub use Rattle.cl_ptext.specs.ReadingLaws.{object_read, read_member}
