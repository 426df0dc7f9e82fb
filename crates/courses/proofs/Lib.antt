pub mod ReadBack
pub mod Recorded
pub mod CourseWords
pub mod OneCourse
pub mod CodeGrades
pub mod Graded
